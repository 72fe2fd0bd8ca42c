-- Plans that are read one after another.
use Rattle.std.proofs.Common.{◌≡◌, ◌≢◌, ◌<◌, ◌≤◌, ℕ, zero, suc, ◌+◌, List, [], ◌∷◌, ◌++◌, Option, Some, Result, Ok, Err, IfErr, true, ap, arith, drop, length, length-append, map, refl, slice_get, sym, subst, take, ◌∙◌}
use Rattle.std.proofs.lemmas.List.{length-map, map-append, take-append-drop, take_all}
use Rattle.std.proofs.lemmas.List.Elements.{AllZip-push}
use Rattle.std.proofs.lemmas.Option.{slice_get-map}
use Rattle.std.specs.List.{AllZip, enumerate_from}
use Rattle.std.specs.Option.{ForSome, option_map}
use Rattle.bb_base.specs.Folder.{FileMap, Folder, file_read}
use Rattle.bb_base.specs.declared.files.FileFail.TheVariants as file_fails
use Rattle.bb_chooser.specs.Binding.{Binding}
use Rattle.bb_flash.specs.declared.plan.Plan.{Plan}
use Rattle.bb_layout.specs.Results.{all_ok, result_and_then}
use Rattle.bb_state.proofs.Lists.{take_next}
use Rattle.bb_shell.specs.Plans.{AreAnswersOf, EntryAnswer, IsAnswerOf, IsPlanOf, IsPlanRead, IsPlanned, NamesTarget, entries_of, entry_answer, plan_by, start_plan_for, plans_by, plans_of}
use Rattle.bb_shell.specs.declared.plan_fault.PlanFault.{PlanFault}
use Rattle.bb_shell.specs.declared.plan_fault.PlanFault.TheVariants.{FileFault, FileTooLong, NoMemory}

-- ---- one answer more

numbered_more : {X : Type 0} (n : ℕ) (xs : List X) (y : X) → enumerate_from n (xs ++ y ∷ []) ≡ enumerate_from n xs ++ (n + length xs, y) ∷ []
numbered_more n [] y = let e : n ≡ n + 0 = omega arith in ap (λ k. (k, y) ∷ []) e
numbered_more n (x ∷ xs) y =
    let e : n + 1 + length xs ≡ n + length (x ∷ xs) = omega arith in
    ap (λ l. (n, x) ∷ l) (numbered_more (n + 1) xs y ∙ ap (λ k. enumerate_from (n + 1) xs ++ (k, y) ∷ []) e)

-- results after values that are all there
abbrev onto : {A E : Type 0} → List A → Result A E → Result (List A) E
onto front r = result_and_then (λ x. Ok (front ++ x ∷ [])) r

err_ok : {A E : Type 0} (e : E) (x : A) → Err e ≡ Ok x → ⊥
err_ok e x p = cc

ok_is : {A E : Type 0} (x y : A) (r : Result A E) → r ≡ Ok x → r ≡ Ok y → x ≡ y
ok_is x y r p q = cc

onto_next : {A E : Type 0} (x : A) (front : List A) (r : Result A E) → result_and_then (λ xs. Ok (x ∷ xs)) (onto front r) ≡ onto (x ∷ front) r
onto_next x front (Ok y) = refl
onto_next x front (Err e) = refl

nil_onto : {A E : Type 0} (r : Result A E) → all_ok (r ∷ []) ≡ onto [] r
nil_onto (Ok x) = refl
nil_onto (Err e) = refl

-- after a result that is there
all_next : {A E : Type 0} (y : A) (front : List A) (rest : Result (List A) E) (more : Result (List A) E) (r : Result A E) →
    result_and_then (λ xs. Ok (y ∷ xs)) rest ≡ Ok front → ((behind : List A) → rest ≡ Ok behind → more ≡ onto behind r) →
    result_and_then (λ xs. Ok (y ∷ xs)) more ≡ onto front r
all_next y front (Err e) more r h rest = absurd (err_ok e front h)
all_next {A} {E} y front (Ok behind) more r h rest =
    let is = ok_is (y ∷ behind) front (Ok (y ∷ behind)) refl h in
    ap (result_and_then (λ xs. Ok (y ∷ xs))) (rest behind refl) ∙ onto_next y behind r ∙ ap (λ f. onto f r) is

all_more : {A E : Type 0} (rs : List (Result A E)) (front : List A) (r : Result A E) → all_ok rs ≡ Ok front → all_ok (rs ++ r ∷ []) ≡ onto front r
all_more [] front r h = nil_onto r ∙ ap (λ f. onto f r) (ok_is [] front (Ok []) refl h)
all_more (Err e ∷ rs) front r h = absurd (err_ok e front h)
all_more (Ok y ∷ rs) front r h = all_next y front (all_ok rs) (all_ok (rs ++ r ∷ [])) r h (λ behind k. all_more rs behind r k)

pub plans_more : (answers : List EntryAnswer) (answer : EntryAnswer) (plans : List (Option Plan)) → plans_by answers ≡ Ok plans →
    plans_by (answers ++ answer ∷ []) ≡ result_and_then (λ plan. Ok (plans ++ plan ∷ [])) (start_plan_for (length answers) answer)
plans_more answers answer plans h =
    let f : ℕ × EntryAnswer → Result (Option Plan) PlanFault = λ entry. start_plan_for entry.0 entry.1 in
    let e : 0 + length answers ≡ length answers = omega arith in
    let numbered = numbered_more 0 answers answer ∙ ap (λ k. enumerate_from 0 answers ++ (k, answer) ∷ []) e in
    ap (λ l. all_ok (map f l)) numbered ∙ ap all_ok (map-append f (enumerate_from 0 answers) ((length answers, answer) ∷ []))
    ∙ all_more (map f (enumerate_from 0 answers)) plans (start_plan_for (length answers) answer) h

-- ---- what was read so far

abbrev pub all_read : List (Option (List ℕ)) → List EntryAnswer
all_read texts = map (λ text. Ok text) texts

pub record AreRead (b : Binding) (before : Folder) (done : ℕ) (plans : List (Option Plan)) : Type 0 where
  pub texts : List (Option (List ℕ))
  pub many : length texts ≡ done
  pub planned : plans_by (all_read texts) ≡ Ok plans
  pub answered : AreAnswersOf before b (all_read texts)

pub read_none : (b : Binding) (before : Folder) → AreRead b before 0 []
read_none b before = record { texts = []; many = refl; planned = refl; answered = λ files h. tt }

read_len : (texts : List (Option (List ℕ))) → length (all_read texts) ≡ length texts
read_len texts = length-map texts (λ text. Ok text)

-- the answers of the first targets, and one more
pub answered_more : (b : Binding) (before : Folder) (answers : List EntryAnswer) (target : ℕ) (answer : EntryAnswer) →
    length answers ≡ target → target < length b.targets → AreAnswersOf before b answers →
    ForSome before.told (λ files. ForSome (slice_get (entries_of b) target) (λ name. IsAnswerOf answer (entry_answer files name))) →
    AreAnswersOf before b (answers ++ answer ∷ [])
answered_more b before answers target answer len inside earlier here files told =
    let names = entries_of b in
    let all = map (entry_answer files) names in
    let one = name_at names target (omega (arith, inside, length-map b.targets (λ t. t.target.entry))) in
    let got : slice_get all target ≡ Some (entry_answer files one.0) = slice_get-map (entry_answer files) names target ∙ ap (option_map (entry_answer files)) one.1 in
    let next : take (target + 1) all ≡ take target all ++ entry_answer files one.0 ∷ [] = take_next all target (entry_answer files one.0) got in
    let longer : length (answers ++ answer ∷ []) ≡ target + 1 = length-append answers (answer ∷ []) ∙ ap (λ n. n + 1) len in
    let before_all : AllZip IsAnswerOf answers (take target all) = subst (λ n. AllZip IsAnswerOf answers (take n all)) len (earlier files told) in
    subst (λ l. AllZip IsAnswerOf (answers ++ answer ∷ []) l) (sym (ap (λ n. take n all) longer ∙ next))
    (AllZip-push IsAnswerOf answers (take target all) answer (entry_answer files one.0) before_all (here files told one.0 one.1))
  where
    name_at : (xs : List (List ℕ)) (i : ℕ) → i < length xs → (x : List ℕ) × (slice_get xs i ≡ Some x)
    name_at [] i within = absurd (omega arith)
    name_at (x ∷ xs) zero within = (x, refl)
    name_at (x ∷ xs) (suc i) within = name_at xs i (omega arith)

-- where all was read, these are the files
read_files : (texts : List (Option (List ℕ))) (files : List EntryAnswer) → AllZip IsAnswerOf (all_read texts) files → files ≡ all_read texts
read_files [] [] h = refl
read_files [] (file ∷ files) h = absurd h
read_files (text ∷ texts) [] h = absurd h
read_files (text ∷ texts) (file ∷ files) h = λ i. h.0 i ∷ read_files texts files h.1 i

-- ---- one target

-- the name of a target's entry
pub entry_name : (b : Binding) (target : ℕ) (found : Option (List ℕ)) (name : List ℕ) →
    found ≡ option_map (λ t. t.target.entry) (slice_get b.targets target) → found ≡ Some name → slice_get (entries_of b) target ≡ Some name
entry_name b target found name is there = slice_get-map (λ t. t.target.entry) b.targets target ∙ sym is ∙ there

some_is : {X : Type 0} (x y : X) → Some x ≡ Some y → x ≡ y
some_is x y h = cc

pub plan_read : (b : Binding) (target : ℕ) (before : Folder) (setting : List ℕ) (given : Result (Option Plan) PlanFault) →
    slice_get (entries_of b) target ≡ Some setting → IsPlanRead target (λ files. entry_answer files setting) before given →
    IsPlanOf b target before given
plan_read b target before setting given there read = record {
  answer = read.answer;
  answered = λ files h other got.
      subst (λ n. IsAnswerOf read.answer (entry_answer files n)) (some_is setting other (sym there ∙ got)) (read.answered files h);
  gives = read.gives;
}

-- it names the target
pub plan_names : (b : Binding) (target : ℕ) (over : FileMap → EntryAnswer) (before : Folder) (given : Result (Option Plan) PlanFault) →
    target < length b.targets → IsPlanRead target over before given → IfErr given (NamesTarget b)
plan_names b target over before given inside read = by given read.gives
  where
    of_answer : (answer : EntryAnswer) → IfErr (start_plan_for target answer) (NamesTarget b)
    of_answer (Ok text) = tt
    of_answer (Err file_fails.Fault) = inside
    of_answer (Err file_fails.TooLong) = inside
    of_answer (Err file_fails.NoMemory) = tt

    named : (given : Result (Option Plan) PlanFault) → given ≡ start_plan_for target read.answer → IfErr given (NamesTarget b)
    named given is = subst (λ (r : Result (Option Plan) PlanFault). IfErr r (NamesTarget b)) (sym is) (of_answer read.answer)

    by : (given : Result (Option Plan) PlanFault) → (given ≢ Err NoMemory → given ≡ start_plan_for target read.answer) → IfErr given (NamesTarget b)
    by (Ok plan) gives = tt
    by (Err (FileFault other)) gives = named (Err (FileFault other)) (gives (λ e. cc))
    by (Err (FileTooLong other)) gives = named (Err (FileTooLong other)) (gives (λ e. cc))
    by (Err NoMemory) gives = tt

-- it was read of a file or a folder, or memory was refused
pub read_so : (target : ℕ) (over : FileMap → EntryAnswer) (before : Folder) (answer : EntryAnswer) (given : Result (Option Plan) PlanFault) →
    ForSome before.told (λ files. IsAnswerOf answer (over files)) → given ≡ start_plan_for target answer →
    IsPlanRead target over before given
read_so target over before answer given told gives = record { answer = answer; answered = told; gives = λ _. gives }

pub read_refused : (target : ℕ) (over : FileMap → EntryAnswer) (before : Folder) (given : Result (Option Plan) PlanFault) →
    given ≡ Err NoMemory → IsPlanRead target over before given
read_refused target over before given is = record {
  answer = Err file_fails.NoMemory;
  answered = λ files h. tt;
  gives = λ other. absurd (other is);
}

-- what was added to nothing
pub added_text : (old text : List ℕ) → old ≡ [] → file_read true old text ≡ Some text
added_text old text none = ap (λ l. Some (drop (length l) text)) none

-- ---- the end

-- the plans of all targets
pub read_all : (b : Binding) (before : Folder) (done : ℕ) (plans : List (Option Plan)) → done ≡ length b.targets → AreRead b before done plans →
    ForSome before.told (λ files. plans_of files b ≡ Ok plans)
read_all b before done plans all read files told =
    let whole = map (entry_answer files) (entries_of b) in
    let len : length (all_read read.texts) ≡ length whole =
    read_len read.texts ∙ read.many ∙ all ∙ sym (length-map (entries_of b) (entry_answer files) ∙ length-map b.targets (λ t. t.target.entry)) in
    let zip : AllZip IsAnswerOf (all_read read.texts) whole =
    subst (λ l. AllZip IsAnswerOf (all_read read.texts) l) (take_whole whole (length (all_read read.texts)) len) (read.answered files told) in
    ap plans_by (read_files read.texts whole zip) ∙ read.planned
  where
    take_whole : {X : Type 0} (xs : List X) (n : ℕ) → n ≡ length xs → take n xs ≡ xs
    take_whole xs n e = take_all n xs (omega (arith, e))

-- ---- a target more

ok_err : {A E : Type 0} (x : A) (e : E) → Ok x ≡ Err e → ⊥
ok_err x e p = cc

err_is : {A E : Type 0} (e f : E) (r : Result A E) → r ≡ Err e → r ≡ Err f → e ≡ f
err_is e f r p q = cc

-- the answers up to this target
module _ (b : Binding) (before : Folder) (done : ℕ) (plans : List (Option Plan)) (given : Result (Option Plan) PlanFault)
    (inside : done < length b.targets) (read : AreRead b before done plans) (of : IsPlanOf b done before given) where
  abbrev answers : List EntryAnswer
  answers = all_read read.texts ++ of.answer ∷ []

  len : length (all_read read.texts) ≡ done
  len = read_len read.texts ∙ read.many

  answers_are : AreAnswersOf before b answers
  answers_are = answered_more b before (all_read read.texts) done of.answer len inside read.answered of.answered

  answers_give : given ≢ Err NoMemory → plans_by answers ≡ onto plans given
  answers_give known =
      plans_more (all_read read.texts) of.answer plans read.planned ∙ ap (λ n. onto plans (start_plan_for n of.answer)) len
      ∙ ap (onto plans) (sym (of.gives known))

  more_by : (answer : EntryAnswer) → of.answer ≡ answer → (plan : Option Plan) → given ≡ Ok plan → AreRead b before (done + 1) (plans ++ plan ∷ [])
  more_by (Ok text) e plan is =
      let split : all_read (read.texts ++ text ∷ []) ≡ answers =
      map-append (λ t. Ok t) read.texts (text ∷ []) ∙ ap (λ (a : EntryAnswer). all_read read.texts ++ a ∷ []) (sym e) in
      record {
        texts = read.texts ++ text ∷ [];
        many = length-append read.texts (text ∷ []) ∙ ap (λ n. n + 1) read.many;
        planned = ap plans_by split ∙ answers_give (λ h. ok_err plan NoMemory (sym is ∙ h)) ∙ ap (onto plans) is;
        answered = subst (AreAnswersOf before b) (sym split) answers_are;
      }
  more_by (Err file_fails.Fault) e plan is =
      absurd (ok_err plan (FileFault done) (sym is ∙ of.gives (λ h. ok_err plan NoMemory (sym is ∙ h)) ∙ ap (start_plan_for done) e))
  more_by (Err file_fails.TooLong) e plan is =
      absurd (ok_err plan (FileTooLong done) (sym is ∙ of.gives (λ h. ok_err plan NoMemory (sym is ∙ h)) ∙ ap (start_plan_for done) e))
  more_by (Err file_fails.NoMemory) e plan is =
      absurd (ok_err plan NoMemory (sym is ∙ of.gives (λ h. ok_err plan NoMemory (sym is ∙ h)) ∙ ap (start_plan_for done) e))

  pub read_more : (plan : Option Plan) → given ≡ Ok plan → AreRead b before (done + 1) (plans ++ plan ∷ [])
  read_more plan is = more_by of.answer refl plan is

  -- a fault ends it
  pub ended_planned : (fault : PlanFault) → given ≡ Err fault → IsPlanned b before (Err fault)
  ended_planned fault is = record {
    answers = answers;
    answered = answers_are;
    most = omega (arith, inside, len, length-append (all_read read.texts) (of.answer ∷ []));
    whole = tt;
    gives = λ known.
        sym (answers_give (λ h. known (ap Err (err_is fault NoMemory given is h))) ∙ ap (onto plans) is);
  }

-- memory was refused after what was read
pub planned_refused : (b : Binding) (before : Folder) (done : ℕ) (plans : List (Option Plan)) → done ≤ length b.targets → AreRead b before done plans →
    IsPlanned b before (Err NoMemory)
planned_refused b before done plans inside read = record {
  answers = all_read read.texts;
  answered = read.answered;
  most = omega (arith, inside, read_len read.texts, read.many);
  whole = tt;
  gives = λ known. absurd (known refl);
}

-- all was read
pub planned_all : (b : Binding) (before : Folder) (done : ℕ) (plans : List (Option Plan)) → done ≡ length b.targets → AreRead b before done plans →
    IsPlanned b before (Ok plans)
planned_all b before done plans all read = record {
  answers = all_read read.texts;
  answered = read.answered;
  most = omega (arith, all, read_len read.texts, read.many);
  whole = read_len read.texts ∙ read.many ∙ all;
  gives = λ known. sym read.planned;
}

-- ---- a file that is too long

numbered_both : {X : Type 0} (n : ℕ) (xs ys : List X) → enumerate_from n (xs ++ ys) ≡ enumerate_from n xs ++ enumerate_from (n + length xs) ys
numbered_both n [] ys = let e : n ≡ n + 0 = omega arith in ap (λ k. enumerate_from k ys) e
numbered_both n (x ∷ xs) ys =
    let e : n + 1 + length xs ≡ n + length (x ∷ xs) = omega arith in
    ap (λ l. (n, x) ∷ l) (numbered_both (n + 1) xs ys ∙ ap (λ k. enumerate_from (n + 1) xs ++ enumerate_from k ys) e)

err_next : {A E : Type 0} (y : A) (e : E) (rest more : Result (List A) E) → result_and_then (λ xs. Ok (y ∷ xs)) rest ≡ Err e →
    ((f : E) → rest ≡ Err f → more ≡ Err f) → result_and_then (λ xs. Ok (y ∷ xs)) more ≡ Err e
err_next y e (Ok xs) more h rest = absurd (ok_err (y ∷ xs) e h)
err_next y e (Err f) more h rest = ap (result_and_then (λ xs. Ok (y ∷ xs))) (rest f refl) ∙ h

all_err : {A E : Type 0} (rs ss : List (Result A E)) (e : E) → all_ok rs ≡ Err e → all_ok (rs ++ ss) ≡ Err e
all_err [] ss e h = absurd (ok_err [] e h)
all_err (Err f ∷ rs) ss e h = h
all_err (Ok y ∷ rs) ss e h = err_next y e (all_ok rs) (all_ok (rs ++ ss)) h (λ f k. all_err rs ss f k)

plans_err : (answers more : List EntryAnswer) (fault : PlanFault) → plans_by answers ≡ Err fault → plans_by (answers ++ more) ≡ Err fault
plans_err answers more fault h =
    let f : ℕ × EntryAnswer → Result (Option Plan) PlanFault = λ entry. start_plan_for entry.0 entry.1 in
    ap (λ l. all_ok (map f l)) (numbered_both 0 answers more)
    ∙ ap all_ok (map-append f (enumerate_from 0 answers) (enumerate_from (0 + length answers) more))
    ∙ all_err (map f (enumerate_from 0 answers)) (map f (enumerate_from (0 + length answers) more)) fault h

-- where the last answer is that of a file that is too long, these are the files
long_files : (texts : List (Option (List ℕ))) (files : List EntryAnswer) → AllZip IsAnswerOf (all_read texts ++ Err file_fails.TooLong ∷ []) files →
    files ≡ all_read texts ++ Err file_fails.TooLong ∷ []
long_files [] [] h = absurd h
long_files [] (file ∷ []) h = λ i. h.0 i ∷ []
long_files [] (file ∷ next ∷ files) h = absurd h.1
long_files (text ∷ texts) [] h = absurd h
long_files (text ∷ texts) (file ∷ files) h = λ i. h.0 i ∷ long_files texts files h.1 i

long_no_memory : (target : ℕ) → FileTooLong target ≡ NoMemory → ⊥
long_no_memory target p = cc

long_no_fault : (target other : ℕ) → FileTooLong target ≡ FileFault other → ⊥
long_no_fault target other p = cc

module _ (b : Binding) (before : Folder) (done : ℕ) (plans : List (Option Plan)) (given : Result (Option Plan) PlanFault) (target : ℕ)
    (inside : done < length b.targets) (read : AreRead b before done plans) (of : IsPlanOf b done before given)
    (is : given ≡ Err (FileTooLong target)) where
  known : given ≢ Err NoMemory
  known p = long_no_memory target (err_is (FileTooLong target) NoMemory given is p)

  answer_long : (answer : EntryAnswer) → of.answer ≡ answer → of.answer ≡ Err file_fails.TooLong
  answer_long (Ok text) e = absurd (ok_err (plan_by done text) (FileTooLong target) (sym (of.gives known ∙ ap (start_plan_for done) e) ∙ is))
  answer_long (Err file_fails.TooLong) e = e
  answer_long (Err file_fails.Fault) e =
      absurd (long_no_fault target done (err_is (FileTooLong target) (FileFault done) given is (of.gives known ∙ ap (start_plan_for done) e)))
  answer_long (Err file_fails.NoMemory) e =
      absurd (long_no_memory target (err_is (FileTooLong target) NoMemory given is (of.gives known ∙ ap (start_plan_for done) e)))

  pub ended_long : ForSome before.told (λ files. plans_of files b ≡ Err (FileTooLong target))
  ended_long files told =
      let whole = map (entry_answer files) (entries_of b) in
      let all = all_read read.texts ++ of.answer ∷ [] in
      let long = answer_long of.answer refl in
      let zip = answers_are b before done plans given inside read of files told in
      let front : take (length all) whole ≡ all =
      long_files read.texts (take (length all) whole)
      (subst (λ (a : EntryAnswer). AllZip IsAnswerOf (all_read read.texts ++ a ∷ []) (take (length all) whole)) long zip)
      ∙ ap (λ (a : EntryAnswer). all_read read.texts ++ a ∷ []) (sym long) in
      let gives = answers_give b before done plans given inside read of known ∙ ap (onto plans) is in
      ap plans_by (sym (take-append-drop (length all) whole) ∙ ap (λ l. l ++ drop (length all) whole) front)
      ∙ plans_err all (drop (length all) whole) (FileTooLong target) gives

-- the files are those that were told before
pub planned_before : (b : Binding) (target : ℕ) (before later : Folder) (given : Result (Option Plan) PlanFault) → later.told ≡ before.told →
    IsPlanOf b target later given → IsPlanOf b target before given
planned_before b target before later given same of = record {
  answer = of.answer;
  answered = λ files h. of.answered files (same ∙ h);
  gives = of.gives;
}
