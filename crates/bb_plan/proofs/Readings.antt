-- Readings one after another, over files that are told, and each of their ends.
use Rattle.std.proofs.Common.{◌≡◌, ◌≢◌, ◌⊎◌, ℕ, Bool, true, false, List, [], ◌∷◌, Option, Some, Result, Ok, Err, IfOk, IfErr, IsErrAnd, refl, sym, ap, subst, ◌∙◌, inl, inr}
use Rattle.std.specs.Option.{ForSome}
use Rattle.bb_base.specs.Faults.{counted}
use Rattle.bb_base.specs.Folder.{FileMap, Folder}
use Rattle.bb_base.specs.declared.files.FileFail.{FileFail}
use Rattle.bb_base.specs.declared.files.FileFail.TheVariants as file_fails
use Rattle.bb_plan.specs.FilesRead.{AreRead, Asked, EachEnd, Fails, FileAnswer, IsExpected, IsFolderLater, IsRead, IsReadAs, Reading, Reads, Yields, and_then, files_answer, answers_on, answers_over, asked_name, file_reading, file_refusal, result_by, result_on, result_over, reading_of, reads_file, after_file_fault}
use Rattle.bb_plan.specs.declared.refusal.Refusal.{Refusal}
use Rattle.bb_plan.specs.declared.refusal.Refusal.TheVariants as refusals

-- ---- the files

pub folder_is : (before after : Folder) → after.told ≡ before.told → after.faults ≡ before.faults → after ≡ before
folder_is before after told faults =
    subst (λ t. record { told = t; faults = after.faults } ≡ before) (sym told)
    (subst (λ n. record { told = before.told; faults = n } ≡ before) (sym faults) refl)

-- a call that counts at most one fault leaves them so
pub counted_later : (before after : Folder) → after.told ≡ before.told → (fails : Bool) → after.faults ≡ counted fails before.faults →
    IsFolderLater before after
counted_later before after told false counts = inl (folder_is before after told counts)
counted_later before after told true counts = inr (folder_is (after_file_fault before) after told counts)

-- a fault was met, and the reading ended with the refusal that names its file
pub record EndsAtFault {A : Type 0} (reading : Reading A) (before after : Folder) (answers : List FileAnswer) : Type 0 where
  pub met : after ≡ after_file_fault before
  pub name : List ℕ
  pub gives : result_by reading answers ≡ Err (refusals.FileFault name)

-- nothing else changes the files
pub one_fault : {A : Type 0} (reading : Reading A) (before after : Folder) (answers : List FileAnswer) →
    AreRead reading before after answers → (after ≡ before) ⊎ EndsAtFault reading before after answers
one_fault (Yields x) before after answers are = inl are.1
one_fault (Fails refusal) before after answers are = inl are.1
one_fault (Reads asked rest) before after [] are = absurd are
one_fault (Reads asked rest) before after (Ok found ∷ answers) are =
    elim (one_fault (rest found) before after answers are.1) [
      | inl same ↦ inl same
      | inr fault ↦ inr (record { met = fault.met; name = fault.name; gives = fault.gives })
    ]
one_fault (Reads asked rest) before after (Err file_fails.Fault ∷ answers) are =
    inr (record { met = are.1; name = asked_name asked; gives = refl })
one_fault (Reads asked rest) before after (Err file_fails.TooLong ∷ answers) are = inl are.1.1
one_fault (Reads asked rest) before after (Err file_fails.NoMemory ∷ answers) are = inl are.1

-- ---- a step

-- the refusal that a `?` hands on
pub refused_by : {T : Type 0} (given : Result T Refusal) {e : Refusal} →
    IsErrAnd given (λ y. y ≡ e) → given ≡ Err e
refused_by (Ok x) is = absurd is
refused_by (Err y) is = ap (λ r. Err r) is

module _ {A B : Type 0} (view : A → B) {folder : Folder} where
  -- memory was refused before any file was read
  pub short_here : (reading : Reading B) {given : Result A Refusal} →
      given ≡ Err refusals.NoMemory → IsReadAs reading view folder folder given
  short_here reading is = inr (is, record { later = inl refl; unread = λ none. refl })

  -- a value needs no file
  pub yielded : {x : A} {value : B} → value ≡ view x →
      IsReadAs (Yields value) view folder folder (Ok x)
  yielded is = inl (record { answers = []; are = (refl, refl); gives = ap (λ v. Ok v) is })

-- the same reading, of what is the same
pub same_reading : {X A B : Type 0} (reading : X → Reading B) (view : A → B) {x y : X} → x ≡ y →
    {before after : Folder} {given : Result A Refusal} → IsReadAs (reading y) view before after
    given →
    IsReadAs (reading x) view before after given
same_reading reading view same {before} {after} {given} read =
    subst (λ z. IsReadAs (reading z) view before after given) (sym same) read

-- whether a refusal is refused memory
memory_or_not : (e : Refusal) → (e ≡ refusals.NoMemory) ⊎ (e ≢ refusals.NoMemory)
memory_or_not refusals.NoMemory = inl refl
memory_or_not _ = inr (λ h. cc)

-- what it gives is what is expected of it
ended_here : {B : Type 0} (r : Result B Refusal) (folder : Folder) (given : Result B Refusal) →
    r ≡ given → IsRead (reading_of r) folder folder given
ended_here (Ok x) folder given is = record { answers = []; are = (refl, refl); gives = is }
ended_here (Err e) folder given is = record { answers = []; are = (refl, refl); gives = is }

module _ {A B : Type 0} (expected : Result B Refusal) (view : A → B) where
  pub step : {folder : Folder} (given : Result A Refusal) → IsExpected expected view given →
      IsReadAs (reading_of expected) view folder folder given
  step {folder} (Ok x) follows = inl (ended_here expected folder (Ok (view x)) follows)
  step {folder} (Err e) follows = elim (memory_or_not e) [
    | inl memory ↦ short_here view (reading_of expected) (ap (λ (r : Refusal). Err r) memory)
    | inr other ↦ inl (ended_here expected folder (Err e) (follows other))
  ]

  -- what a `?` refused is what was expected
  pub refused_step : (given : Result A Refusal) {e : Refusal} → IsErrAnd given (λ y. y ≡ e) →
      (e ≢ refusals.NoMemory → expected ≡ Err e) → IsExpected expected view given
  refused_step (Ok x) is refused = absurd is
  refused_step (Err y) is refused =
      λ some. refused (λ memory. some (is ∙ memory)) ∙ ap (λ r. Err r) (sym is)

-- ---- one reading after another

-- after the answer for the first file
pub read_on : {A B : Type 0} (asked : Asked) (rest : Option (List ℕ) → Reading B) (view : A → B)
    (before after : Folder) (given : Result A Refusal) (found : Option (List ℕ)) →
    ForSome before.told (λ files. files_answer files asked ≡ Ok found) →
    IsReadAs (rest found) view before after given →
    IsReadAs (Reads asked rest) view before after given
read_on asked rest view before after given found told (inl read) =
    inl (record { answers = Ok found ∷ read.answers; are = (told, read.are); gives = read.gives })
read_on asked rest view before after given found told (inr (memory, short)) =
    inr (memory, record { later = short.later; unread = λ none. absurd cc })

module _ {A B : Type 0} (next : A → Reading B) where
  none_first : (reading : Reading A) → reads_file (and_then next reading) ≡ false →
      reads_file reading ≡ false
  none_first (Yields x) none = refl
  none_first (Fails refusal) none = refl
  none_first (Reads asked rest) none = none

  pub read_stopped : (reading : Reading A) (before after : Folder) (answers : List FileAnswer)
      (e : Refusal) → AreRead reading before after answers → result_by reading answers ≡ Err e →
      IsRead (and_then next reading) before after (Err e)
  read_stopped (Yields y) before after answers e are is = absurd cc
  read_stopped (Fails refusal) before after answers e are is =
      let same : refusal ≡ e = cc in
      record { answers = answers; are = are; gives = ap (λ r. Err r) same }
  read_stopped (Reads asked rest) before after [] e are is = absurd are
  read_stopped (Reads asked rest) before after (Ok found ∷ answers) e are is =
      let read = read_stopped (rest found) before after answers e are.1 is in
      record { answers = Ok found ∷ read.answers; are = (are.0, read.are); gives = read.gives }
  read_stopped (Reads asked rest) before after (Err fail ∷ answers) e are is =
      let same : file_refusal (asked_name asked) fail ≡ e = cc in
      record { answers = Err fail ∷ answers; are = are; gives = ap (λ r. Err r) same }

  -- what is read after a value
  module _ {D : Type 0} (last : D → B) (before mid after : Folder) (given : Result D Refusal) where
    read_then : (reading : Reading A) (answers : List FileAnswer) (x : A) →
        AreRead reading before mid answers → result_by reading answers ≡ Ok x →
        IsReadAs (next x) last mid after given →
        IsReadAs (and_then next reading) last before after given
    read_then (Yields y) answers x are is behind =
        let same : x ≡ y = cc in
        subst (λ (z : A). IsReadAs (next z) last before after given) same
        (subst (λ (m : Folder). IsReadAs (next x) last m after given) are.1 behind)
    read_then (Fails refusal) answers x are is behind = absurd cc
    read_then (Reads asked rest) [] x are is behind = absurd are
    read_then (Reads asked rest) (Ok found ∷ answers) x are is behind =
        read_on asked (λ f. and_then next (rest f)) last before after given found are.0
        (read_then (rest found) answers x are.1 is behind)
    read_then (Reads asked rest) (Err fail ∷ answers) x are is behind = absurd cc

module _ {A B C D : Type 0} (next : A → Reading B) (reading : Reading A) (view : C → A)
    (last : D → B) {before : Folder} where
  -- the first of two was refused
  pub stopped : {after : Folder} {e : Refusal} → IsReadAs reading view before after (Err e) →
      (given : Result D Refusal) → IsErrAnd given (λ y. y ≡ e) →
      IsReadAs (and_then next reading) last before after given
  stopped {after} {e} read given is =
      subst (IsReadAs (and_then next reading) last before after) (sym (refused_by given is))
      (by read)
    where
      by : IsReadAs reading view before after (Err e) →
          IsReadAs (and_then next reading) last before after (Err e)
      by (inl read) =
          inl (read_stopped next reading before after read.answers e read.are read.gives)
      by (inr (memory, short)) =
          let same : e ≡ refusals.NoMemory = cc in
          inr (
            ap (λ (r : Refusal). Err r) same,
            record {
              later = short.later;
              unread = λ none. short.unread (none_first next reading none);
            },
          )

  -- it gave a value
  pub gone_on : {mid after : Folder} (x : C) {given : Result D Refusal} →
      IsReadAs reading view before mid (Ok x) → IsReadAs (next (view x)) last mid after given →
      IsReadAs (and_then next reading) last before after given
  gone_on {mid} {after} x {given} (inl read) behind =
      read_then next last before mid after given reading read.answers (view x) read.are read.gives
      behind
  gone_on x (inr (memory, short)) behind = absurd cc

-- ---- a call

pub read_as_later : {A B : Type 0} (reading : Reading B) (view : A → B) (before after : Folder) (given : Result A Refusal) →
    IsReadAs reading view before after given → IsFolderLater before after
read_as_later reading view before after given (inl read) =
    elim (one_fault reading before after read.answers read.are) [ inl same ↦ inl same | inr fault ↦ inr fault.met ]
read_as_later reading view before after given (inr (is, short)) = short.later

read_none : {A : Type 0} (reading : Reading A) (before after : Folder) (answers : List FileAnswer) →
    AreRead reading before after answers → reads_file reading ≡ false → after ≡ before
read_none (Yields x) before after answers are none = are.1
read_none (Fails refusal) before after answers are none = are.1
read_none (Reads asked rest) before after answers are none = absurd cc

pub read_as_none : {A B : Type 0} (reading : Reading B) (view : A → B) (before after : Folder) (given : Result A Refusal) →
    IsReadAs reading view before after given → reads_file reading ≡ false → after ≡ before
read_as_none reading view before after given (inl read) none = read_none reading before after read.answers read.are none
read_as_none reading view before after given (inr (is, short)) none = short.unread none

-- ---- a step after a file

abbrev pub made_of : {B : Type 0} → (List ℕ → Result B Refusal) → List ℕ → Reading B
made_of next file = and_then (λ bytes. reading_of (next bytes)) (file_reading file)

module _ {A B : Type 0} (next : List ℕ → Result B Refusal) (view : A → B) {file : List ℕ}
    {before after : Folder} where
  -- the file wasn't read
  pub file_stopped : {e : Refusal} →
      IsReadAs (file_reading file) (λ (bytes : List ℕ). bytes) before after (Err e) →
      (given : Result A Refusal) → IsErrAnd given (λ y. y ≡ e) →
      IsReadAs (made_of next file) view before after given
  file_stopped read given is =
      stopped (λ bytes. reading_of (next bytes)) (file_reading file) (λ (b : List ℕ). b) view read
      given is

  -- it was, and this was made of it
  pub file_step : {bytes text : List ℕ} (given : Result A Refusal) →
      IsReadAs (file_reading file) (λ (bytes : List ℕ). bytes) before after (Ok bytes) →
      text ≡ bytes → IsExpected (next text) view given →
      IsReadAs (made_of next file) view before after given
  file_step {bytes} given read same follows =
      gone_on (λ bytes. reading_of (next bytes)) (file_reading file) (λ (b : List ℕ). b) view bytes
      read (step (next bytes) view given (subst (λ t. IsExpected (next t) view given) same follows))

-- ---- files that are told

-- it ends as it does over them, unless a fault was met or memory refused
abbrev pub IsReadOver : {A : Type 0} → Result A Refusal → Result A Refusal → Type 0
IsReadOver given told =
    (given ≡ told) ⊎ (((name : List ℕ) × (given ≡ Err (refusals.FileFault name))) ⊎ (given ≡ Err refusals.NoMemory))

pub same_over : {A : Type 0} (reading : Reading A) (before after : Folder) (answers : List FileAnswer) →
    AreRead reading before after answers → (files : FileMap) → before.told ≡ Some files →
    IsReadOver (result_by reading answers) (result_over files reading)
same_over (Yields x) before after answers are files told = inl refl
same_over (Fails refusal) before after answers are files told = inl refl
same_over (Reads asked rest) before after [] are files told = absurd are
same_over (Reads asked rest) before after (Ok found ∷ answers) are files told =
    subst (IsReadOver (result_by (rest found) answers))
    (sym (ap (result_on asked (λ f. result_over files (rest f))) (are.0 files told)))
    (same_over (rest found) before after answers are.1 files told)
same_over (Reads asked rest) before after (Err file_fails.Fault ∷ answers) are files told = inr (inl (asked_name asked, refl))
same_over (Reads asked rest) before after (Err file_fails.TooLong ∷ answers) are files told =
    inl (sym (ap (result_on asked (λ f. result_over files (rest f))) (are.1.0 files told)))
same_over (Reads asked rest) before after (Err file_fails.NoMemory ∷ answers) are files told = inr (inr refl)

-- the answers of the files make what it ends with over them
pub by_over : {A : Type 0} (reading : Reading A) (files : FileMap) →
    result_by reading (answers_over files reading) ≡ result_over files reading
by_over (Yields x) files = refl
by_over (Fails refusal) files = refl
by_over (Reads asked rest) files = at (λ found. by_over (rest found) files) (files_answer files asked)
  where
    at : ((found : Option (List ℕ)) → result_by (rest found) (answers_over files (rest found)) ≡ result_over files (rest found)) →
        (answer : FileAnswer) →
        result_by (Reads asked rest) (answers_on (λ found. answers_over files (rest found)) answer)
        ≡ result_on asked (λ found. result_over files (rest found)) answer
    at each (Ok found) = each found
    at each (Err fail) = refl

-- a reading that reads no file ends in one way
pub one_end : {A : Type 0} (reading : Reading A) → reads_file reading ≡ false → (answers : List FileAnswer) (files : FileMap) →
    result_by reading answers ≡ result_over files reading
one_end (Yields x) none answers files = refl
one_end (Fails refusal) none answers files = refl
one_end (Reads asked rest) none answers files = absurd cc

-- ---- ends

abbrev pub HasErr : {A : Type 0} → (Refusal → Type 0) → Result A Refusal → Type 0
HasErr Q (Ok x) = ⊥
HasErr Q (Err e) = Q e

-- what holds of each end, and of each fail, holds of what it ends with
pub ends_ok : {A : Type 0} (P : A → Type 0) (Q : Refusal → Type 0) (reading : Reading A) → EachEnd P Q reading →
    (answers : List FileAnswer) → IfOk (result_by reading answers) P
ends_ok P Q (Yields x) each answers = each
ends_ok P Q (Fails e) each answers = tt
ends_ok P Q (Reads asked rest) each [] = tt
ends_ok P Q (Reads asked rest) each (Ok found ∷ answers) = ends_ok P Q (rest found) (each found) answers
ends_ok P Q (Reads asked rest) each (Err fail ∷ answers) = tt

module _ {A : Type 0} (P : A → Type 0) (Q Q' : Refusal → Type 0) where
  pub ends_err : ((e : Refusal) → Q e → Q' e) →
      ((name : List ℕ) (fail : FileFail) → Q' (file_refusal name fail)) → Q' refusals.NoMemory →
      (reading : Reading A) → EachEnd P Q reading → (answers : List FileAnswer) →
      IfErr (result_by reading answers) Q'
  ends_err more fails memory (Yields x) each answers = tt
  ends_err more fails memory (Fails e) each answers = more e each
  ends_err more fails memory (Reads asked rest) each [] = memory
  ends_err more fails memory (Reads asked rest) each (Ok found ∷ answers) =
      ends_err more fails memory (rest found) (each found) answers
  ends_err more fails memory (Reads asked rest) each (Err e ∷ answers) = fails (asked_name asked) e

  -- a refusal that no end and no other fail has comes of a fault
  module _ (other : (e : Refusal) → Q e → Q' e → ⊥)
      (long : (name : List ℕ) → Q' (refusals.FileTooLong name) → ⊥)
      (memory : Q' refusals.NoMemory → ⊥) (before after : Folder) where
    pub fault_met : (reading : Reading A) → EachEnd P Q reading → (answers : List FileAnswer) →
        AreRead reading before after answers → HasErr Q' (result_by reading answers) →
        after ≡ after_file_fault before
    fault_met (Yields x) each answers are refused = absurd refused
    fault_met (Fails e) each answers are refused = absurd (other e each refused)
    fault_met (Reads asked rest) each [] are refused = absurd are
    fault_met (Reads asked rest) each (Ok found ∷ answers) are refused =
        fault_met (rest found) (each found) answers are.1 refused
    fault_met (Reads asked rest) each (Err file_fails.Fault ∷ answers) are refused = are.1
    fault_met (Reads asked rest) each (Err file_fails.TooLong ∷ answers) are refused =
        absurd (long (asked_name asked) refused)
    fault_met (Reads asked rest) each (Err file_fails.NoMemory ∷ answers) are refused =
        absurd (memory refused)

pub each_then : {A B : Type 0} (P : A → Type 0) (P' : B → Type 0) (Q : Refusal → Type 0) (next : A → Reading B) (reading : Reading A) →
    EachEnd P Q reading → ((x : A) → P x → EachEnd P' Q (next x)) → EachEnd P' Q (and_then next reading)
each_then P P' Q next (Yields x) each behind = behind x each
each_then P P' Q next (Fails e) each behind = each
each_then P P' Q next (Reads asked rest) each behind = λ found. each_then P P' Q next (rest found) (each found) behind
