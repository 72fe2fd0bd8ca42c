-- What the words from a place on are, by the word at that place.
use Rattle.std.proofs.Common.{◌≡◌, ℕ, zero, suc, ◌+◌, ◌≤◌, List, [], ◌∷◌, Bool, true, false, Option, Some, None, Result, Ok, Err, if◌then◌else◌, codes, drop, length, refl, add-one, ◌∙◌, sym, ap, subst, IfOk, IfErr}
use Rattle.std.proofs.lemmas.Option.{slice_get_past}
use Rattle.std.specs.Prelude.{slice_get, option_and_then}
use Rattle.std.specs.Option.{ok_or, option_map, option_map_or}
use Rattle.std.specs.Result.{IsErrAnd}
use Rattle.std.specs.Str.{bytes_eq}
use Rattle.bb_words.specs.Answer.{Refuses}
use Rattle.bb_words.specs.declared.command.Command.{Command}
use Rattle.bb_words.specs.declared.command.Command.TheVariants.{Menu}
use Rattle.bb_words.specs.declared.command.MenuCommand.{MenuCommand}
use Rattle.bb_words.specs.declared.command.RawAction.TheVariants.{Look, Write}
use Rattle.bb_words.specs.declared.given.Given.{Given}
use Rattle.bb_words.specs.declared.option.Valued.{Valued}
use Rattle.bb_words.specs.declared.error.WordsError.{WordsError}
use Rattle.bb_words.specs.declared.error.WordsError.TheVariants.{BadWord, NoMemory}
use Rattle.bb_words.specs.declared.row.Row.{Row}
use Rattle.bb_words.specs.Options.{none_given}
use Rattle.bb_words.specs.Table.{row_of}
use Rattle.bb_words.specs.Words.{WordStage, Start, Magic, Length, Mode, Area, DirOption, DirValue, DrillNumber, DrillCount, Options, Whole, raw_of, drill_of, number_up_to, area_spelt, sessions_spelt, next, command_at, words_from, words_of}

-- ---- answers

-- the error of a `?`
pub raised : {T E : Type 0} (P : E → Type 0) (r : Result T E) (e : E) → IsErrAnd r (λ y. y ≡ e) → P e → IfErr r P
raised P (Ok x) e h p = tt
raised P (Err y) e h p = subst P (sym h) p

pub moved : {X : Type 0} (x y : Result X ℕ) (cause : WordsError) → x ≡ y → Refuses y cause → Refuses x cause
moved x y cause e h = subst (λ x. Refuses x cause) (sym e) h

pub ok_moved : (r : Result Command WordsError) (x y : Result Command ℕ) → x ≡ y → IfOk r (λ command. y ≡ Ok command) → IfOk r (λ command. x ≡ Ok command)
ok_moved r x y e h = subst (λ x. IfOk r (λ command. x ≡ Ok command)) (sym e) h

pub menu_moved : (r : Result MenuCommand WordsError) (x y : Result Command ℕ) → x ≡ y → IfOk r (λ menu. y ≡ Ok (Menu menu)) → IfOk r (λ menu. x ≡ Ok (Menu menu))
menu_moved r x y e h = subst (λ x. IfOk r (λ menu. x ≡ Ok (Menu menu))) (sym e) h

pub err_moved : {A : Type 0} (r : Result A WordsError) (x y : Result Command ℕ) → x ≡ y → IfErr r (Refuses y) → IfErr r (Refuses x)
err_moved r x y e h = subst (λ x. IfErr r (Refuses x)) (sym e) h

-- where a value is read, and where none is
pub read_on : {A X : Type 0} (x d : X) (f : A → X) (o : Option A) (a : A) → x ≡ option_map_or f o d → o ≡ Some a → x ≡ f a
read_on x d f o a e found = e ∙ ap (λ o. option_map_or f o d) found

pub none_on : {A X : Type 0} (x : Result X ℕ) (f : A → Result X ℕ) (o : Option A) (place : ℕ) (cause : WordsError) → x ≡ option_map_or f o (Err place)
    → (cause ≡ BadWord place) × (o ≡ None) → Refuses x cause
none_on x f o place cause e bad = subst (Refuses x) (sym bad.0) (e ∙ ap (λ o. option_map_or f o (Err place)) bad.1)

lost : {A X : Type 0} (f : A → Result X ℕ) (o : Option A) (at place : ℕ) → ok_or o at ≡ Err place → option_map_or f o (Err at) ≡ Err place
lost f None at place h = ap (λ e. Err e) (same at place h)
  where
    same : {A : Type 0} (a b : ℕ) → ◌≡◌ {A = Result A ℕ} (Err a) (Err b) → a ≡ b
    same a b h = cc
lost f (Some a) at place h = absurd (cc)

pub lost_on : {A X : Type 0} (x : Result X ℕ) (f : A → Result X ℕ) (o : Option A) (at : ℕ) (cause : WordsError) → x ≡ option_map_or f o (Err at)
    → Refuses (ok_or o at) cause → Refuses x cause
lost_on x f o at (BadWord place) e h = e ∙ lost f o at place h
lost_on x f o at NoMemory e h = tt

-- ---- the word at a place

-- the words from a place on, where the next place is m and the word is the n-th
abbrev pub behind_word : ℕ → ℕ → List (List ℕ) → WordStage → List ℕ → Result Command ℕ
behind_word place m words stage word = option_map_or (λ behind. words_from (place + 1) behind (drop m words)) (next stage word) (Err place)

step_at : (place n : ℕ) (stage : WordStage) (words : List (List ℕ)) →
    words_from place stage (drop n words) ≡ option_map_or (behind_word place (suc n) words stage) (slice_get words n) (ok_or (command_at stage) place)
unfolding words_from
step_at place zero stage [] = refl
step_at place (suc n) stage [] = refl
step_at place zero stage (w ∷ ws) = refl
step_at place (suc n) stage (w ∷ ws) = step_at place n stage ws

step_to : (place m : ℕ) (stage : WordStage) (words : List (List ℕ)) → m ≡ suc place →
    words_from place stage (drop place words) ≡ option_map_or (behind_word place m words stage) (slice_get words place) (ok_or (command_at stage) place)
step_to place m stage words e = rw e (step_at place place stage words)

step : (place : ℕ) (stage : WordStage) (words : List (List ℕ)) →
    words_from place stage (drop place words) ≡ option_map_or (behind_word place (place + 1) words stage) (slice_get words place) (ok_or (command_at stage) place)
step place stage words = step_to place (place + 1) stage words (add-one place)

step_word : (place : ℕ) (stage : WordStage) (words : List (List ℕ)) (word : List ℕ) → slice_get words place ≡ Some word →
    words_from place stage (drop place words) ≡ behind_word place (place + 1) words stage word
step_word place stage words word found = read_on _ _ _ _ word (step place stage words) found

-- a word that may come, one that may not, and none
pub step_on : (place : ℕ) (stage behind : WordStage) (words : List (List ℕ)) (word : List ℕ) → slice_get words place ≡ Some word → next stage word ≡ Some behind →
    words_from place stage (drop place words) ≡ words_from (place + 1) behind (drop (place + 1) words)
step_on place stage behind words word found may = read_on _ _ _ _ behind (step_word place stage words word found) may

pub step_bad : (place : ℕ) (stage : WordStage) (words : List (List ℕ)) (word : List ℕ) → slice_get words place ≡ Some word → next stage word ≡ None →
    words_from place stage (drop place words) ≡ Err place
step_bad place stage words word found bad = step_word place stage words word found ∙ ap (λ o. option_map_or (λ behind. words_from (place + 1) behind (drop (place + 1) words)) o (Err place)) bad

pub step_lost : (place : ℕ) (stage : WordStage) (words : List (List ℕ)) (word : List ℕ) (cause : WordsError) → slice_get words place ≡ Some word →
    Refuses (ok_or (next stage word) place) cause → Refuses (words_from place stage (drop place words)) cause
step_lost place stage words word cause found h = lost_on _ _ (next stage word) place cause (step_word place stage words word found) h

step_none : (place : ℕ) (stage : WordStage) (words : List (List ℕ)) → slice_get words place ≡ None →
    words_from place stage (drop place words) ≡ ok_or (command_at stage) place
step_none place stage words none = step place stage words ∙ ap (λ o. option_map_or (behind_word place (place + 1) words stage) o (ok_or (command_at stage) place)) none

pub at_end : (place : ℕ) (command : Command) (words : List (List ℕ)) →
    words_from place (Whole command) (drop place words) ≡ option_map_or (λ word. Err place) (slice_get words place) (Ok command)
at_end place command words = step place (Whole command) words

-- a word is missing
pub missing : (place : ℕ) (stage : WordStage) (words : List (List ℕ)) (cause : WordsError) → command_at stage ≡ None → (cause ≡ BadWord place) × (slice_get words place ≡ None) →
    Refuses (words_from place stage (drop place words)) cause
missing place stage words cause none bad =
    subst (Refuses _) (sym bad.0) (step_none place stage words bad.1 ∙ ap (λ o. ok_or o place) none)

-- ---- words that stand for a value

mapped : {A X : Type 0} (g : WordStage → X) (make : A → WordStage) (read : List ℕ → Option A) (d : X) (o : Option (List ℕ)) →
    option_map_or (λ word. option_map_or g (option_map make (read word)) d) o d ≡ option_map_or (λ v. g (make v)) (option_and_then read o) d
mapped g make read d None = refl
mapped g make read d (Some word) = mapped_value g make d (read word)
  where
    mapped_value : {A X : Type 0} (g : WordStage → X) (make : A → WordStage) (d : X) (o : Option A) → option_map_or g (option_map make o) d ≡ option_map_or (λ v. g (make v)) o d
    mapped_value g make d None = refl
    mapped_value g make d (Some v) = refl

pub at_magic : (place : ℕ) (words : List (List ℕ)) →
    words_from place Magic (drop place words) ≡
    option_map_or (λ n. words_from (place + 1) (Length n) (drop (place + 1) words)) (option_and_then (number_up_to 4294967295) (slice_get words place)) (Err place)
at_magic place words = step place Magic words ∙ mapped _ (λ n. Length n) (number_up_to 4294967295) _ (slice_get words place)

pub at_length : (place magic : ℕ) (words : List (List ℕ)) →
    words_from place (Length magic) (drop place words) ≡
    option_map_or (λ n. words_from (place + 1) (Mode magic n) (drop (place + 1) words)) (option_and_then (number_up_to 65535) (slice_get words place)) (Err place)
at_length place magic words = step place (Length magic) words ∙ mapped _ (λ n. Mode magic n) (number_up_to 65535) _ (slice_get words place)

pub at_area : (place magic len : ℕ) (words : List (List ℕ)) →
    words_from place (Area magic len) (drop place words) ≡
    option_map_or (λ area. words_from (place + 1) (Whole (raw_of magic len (Write area))) (drop (place + 1) words)) (option_and_then (area_spelt len) (slice_get words place)) (Err place)
at_area place magic len words = step place (Area magic len) words ∙ mapped _ (λ area. Whole (raw_of magic len (Write area))) (area_spelt len) _ (slice_get words place)

pub at_number : (place : ℕ) (words : List (List ℕ)) →
    words_from place DrillNumber (drop place words) ≡
    option_map_or (λ n. words_from (place + 1) (DrillCount n) (drop (place + 1) words)) (option_and_then (number_up_to 4294967295) (slice_get words place)) (Err place)
at_number place words = step place DrillNumber words ∙ mapped _ (λ n. DrillCount n) (number_up_to 4294967295) _ (slice_get words place)

pub at_sessions : (place number : ℕ) (words : List (List ℕ)) →
    words_from place (DrillCount number) (drop place words) ≡
    option_map_or (λ n. words_from (place + 1) (Whole (drill_of number n)) (drop (place + 1) words)) (option_and_then sessions_spelt (slice_get words place)) (Err place)
at_sessions place number words = step place (DrillCount number) words ∙ mapped _ (λ n. Whole (drill_of number n)) sessions_spelt _ (slice_get words place)

-- ---- words that are compared

is_test : {X : Type 0} (b : Bool) (x y : X) → b ≡ true → (if b then x else y) ≡ x
is_test b x y h = ap (λ b. if b then x else y) h

not_test : {X : Type 0} (b : Bool) (x y : X) → b ≡ false → (if b then x else y) ≡ y
not_test b x y h = ap (λ b. if b then x else y) h

pub look_word : (magic len : ℕ) (words : List (List ℕ)) (word : List ℕ) → slice_get words 3 ≡ Some word → bytes_eq word (codes "-g") ≡ true →
    words_from 3 (Mode magic len) (drop 3 words) ≡ words_from 4 (Whole (raw_of magic len Look)) (drop 4 words)
look_word magic len words word found get = step_on 3 (Mode magic len) _ words word found (is_test _ _ _ get)

pub write_word : (magic len : ℕ) (words : List (List ℕ)) (word : List ℕ) → slice_get words 3 ≡ Some word → bytes_eq word (codes "-g") ≡ false → bytes_eq word (codes "-s") ≡ true →
    words_from 3 (Mode magic len) (drop 3 words) ≡ words_from 4 (Area magic len) (drop 4 words)
write_word magic len words word found get set = step_on 3 (Mode magic len) _ words word found (not_test _ _ _ get ∙ is_test _ _ _ set)

pub other_word : (magic len : ℕ) (words : List (List ℕ)) (word : List ℕ) → slice_get words 3 ≡ Some word → bytes_eq word (codes "-g") ≡ false → bytes_eq word (codes "-s") ≡ false →
    words_from 3 (Mode magic len) (drop 3 words) ≡ Err 3
other_word magic len words word found get set = step_bad 3 (Mode magic len) words word found (not_test _ _ _ get ∙ not_test _ _ _ set)

pub raw_command : (words : List (List ℕ)) (word : List ℕ) → slice_get words 0 ≡ Some word → bytes_eq word (codes "raw") ≡ true →
    words_of words ≡ words_from 1 Magic (drop 1 words)
raw_command words word found raw = step_on 0 Start _ words word found (is_test _ _ _ raw)

pub menu_command : (words : List (List ℕ)) (word : List ℕ) → slice_get words 0 ≡ Some word → bytes_eq word (codes "raw") ≡ false → bytes_eq word (codes "menu") ≡ true →
    words_of words ≡ words_from 1 DirOption (drop 1 words)
menu_command words word found raw menu = step_on 0 Start _ words word found (not_test _ _ _ raw ∙ is_test _ _ _ menu)

pub drill_command : (words : List (List ℕ)) (word : List ℕ) → slice_get words 0 ≡ Some word → bytes_eq word (codes "raw") ≡ false → bytes_eq word (codes "menu") ≡ false →
    bytes_eq word (codes "drill") ≡ true → words_of words ≡ words_from 1 DrillNumber (drop 1 words)
drill_command words word found raw menu drill = step_on 0 Start _ words word found (not_test _ _ _ raw ∙ not_test _ _ _ menu ∙ is_test _ _ _ drill)

-- what a word that is none of these begins
row_word : (word : List ℕ) → bytes_eq word (codes "raw") ≡ false → bytes_eq word (codes "menu") ≡ false → bytes_eq word (codes "drill") ≡ false →
    next Start word ≡ option_map (λ row. Options row None none_given) (row_of word)
row_word word raw menu drill = not_test _ _ _ raw ∙ not_test _ _ _ menu ∙ not_test _ _ _ drill

pub option_command : (row : Row) (words : List (List ℕ)) (word : List ℕ) → slice_get words 0 ≡ Some word → bytes_eq word (codes "raw") ≡ false →
    bytes_eq word (codes "menu") ≡ false → bytes_eq word (codes "drill") ≡ false → row_of word ≡ Some row → words_of words ≡ words_from 1 (Options row None none_given) (drop 1 words)
option_command row words word found raw menu drill is =
    step_on 0 Start _ words word found (row_word word raw menu drill ∙ ap (option_map (λ row. Options row None none_given)) is)

pub no_command : (words : List (List ℕ)) (word : List ℕ) → slice_get words 0 ≡ Some word → bytes_eq word (codes "raw") ≡ false →
    bytes_eq word (codes "menu") ≡ false → bytes_eq word (codes "drill") ≡ false → row_of word ≡ None → words_of words ≡ Err 0
no_command words word found raw menu drill is =
    step_bad 0 Start words word found (row_word word raw menu drill ∙ ap (option_map (λ row. Options row None none_given)) is)

-- ---- `menu`

pub dir_option : (words : List (List ℕ)) (word : List ℕ) → slice_get words 1 ≡ Some word → bytes_eq word (codes "--dir") ≡ true →
    words_from 1 DirOption (drop 1 words) ≡ words_from 2 DirValue (drop 2 words)
dir_option words word found dir = step_on 1 DirOption DirValue words word found (is_test _ _ _ dir)

pub no_dir_option : (words : List (List ℕ)) (word : List ℕ) → slice_get words 1 ≡ Some word → bytes_eq word (codes "--dir") ≡ false →
    words_from 1 DirOption (drop 1 words) ≡ Err 1
no_dir_option words word found other = step_bad 1 DirOption words word found (not_test _ _ _ other)

pub dir_value : (words : List (List ℕ)) (word : List ℕ) → slice_get words 2 ≡ Some word →
    words_from 2 DirValue (drop 2 words) ≡ words_from 3 (Whole (Menu (record { dir = word }))) (drop 3 words)
dir_value words word found = step_on 2 DirValue (Whole (Menu (record { dir = word }))) words word found refl

-- ---- the end of the options

pub options_made : (x : Result Command ℕ) (words : List (List ℕ)) (row : Row) (due : Option Valued) (given : Given) (place : ℕ) (r : Result Command WordsError) →
    length words ≤ place → x ≡ words_from place (Options row due given) (drop place words) →
    IfOk r (λ command. command_at (Options row due given) ≡ Some command) → IfOk r (λ command. x ≡ Ok command)
options_made x words row due given place (Ok command) past e made =
    e ∙ step_none place (Options row due given) words (slice_get_past words place past) ∙ ap (λ o. ok_or o place) made
options_made x words row due given place (Err cause) past e made = tt

pub options_lost : (x : Result Command ℕ) (words : List (List ℕ)) (row : Row) (due : Option Valued) (given : Given) (place : ℕ) (r : Result Command WordsError) →
    length words ≤ place → x ≡ words_from place (Options row due given) (drop place words) →
    IfErr r (λ cause. (cause ≡ BadWord place) × (command_at (Options row due given) ≡ None)) → IfErr r (Refuses x)
options_lost x words row due given place (Ok command) past e bad = tt
options_lost x words row due given place (Err cause) past e bad =
    moved x _ cause e (missing place (Options row due given) words cause bad.1 (bad.0, slice_get_past words place past))
