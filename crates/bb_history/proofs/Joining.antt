-- Parts of a text that are added one after another.
use Rattle.std.proofs.Common.{◌≡◌, List, ℕ, [], ◌++◌, append-nil, append_assoc, false, Result, Ok, Err, IsErrAnd, OnErr, OnOk, refl, sym, ap, subst, ◌∙◌}
use Rattle.bb_base.specs.Faults.{counted}
use Rattle.bb_bucket.specs.Calls.{IsQuiet}
use Rattle.bb_flash.specs.Device.{Device}
use Rattle.bb_flash.specs.Image.{Image}
use Rattle.bb_history.specs.History.{Adds, AddsFront, ReadsHistory, failed_to_read, is_read_fault}
use Rattle.bb_history.specs.declared.fault.HistoryFault.{HistoryFault}

-- nothing was added yet
pub adds_none : (whole old : List ℕ) → AddsFront whole old old
adds_none whole old =
    record { front = []; rest = whole; whole_is = refl; added = sym (append-nil old) }

-- a whole part, and then a front of the rest
pub front_behind : (one two whole old middle new : List ℕ) → whole ≡ one ++ two →
    middle ≡ old ++ one → AddsFront two middle new → AddsFront whole old new
front_behind one two whole old middle new all first rest = record {
  front = one ++ rest.front;
  rest = rest.rest;
  whole_is =
      all ∙ ap (λ l. one ++ l) rest.whole_is ∙ sym (append_assoc one rest.front rest.rest);
  added =
      rest.added ∙ ap (λ l. l ++ rest.front) first ∙ append_assoc old one rest.front;
}

-- a whole part, and then what was added of the rest
pub adds_behind : {T E : Type 0} (one two whole old middle new : List ℕ) (given : Result T E) →
    whole ≡ one ++ two → middle ≡ old ++ one → Adds two middle new given → Adds whole old new given
adds_behind one two whole old middle new (Ok done) all first rest =
    rest ∙ ap (λ l. l ++ two) first ∙ append_assoc old one two ∙ ap (λ l. old ++ l) (sym all)
adds_behind one two whole old middle new (Err fault) all first rest =
    front_behind one two whole old middle new all first rest

-- what was added or left as it was
pub adds_as : {T E : Type 0} (whole old new : List ℕ) (given : Result T E) →
    OnOk given (new ≡ old ++ whole) → OnErr given (new ≡ old) → Adds whole old new given
adds_as whole old new (Ok done) added unchanged = added
adds_as whole old new (Err fault) added unchanged =
    subst (AddsFront whole old) (sym unchanged) (adds_none whole old)

-- a front of a first part is one of the whole
pub front_of_first : (one two whole old new : List ℕ) → whole ≡ one ++ two →
    AddsFront one old new → AddsFront whole old new
front_of_first one two whole old new all first = record {
  front = first.front;
  rest = first.rest ++ two;
  whole_is =
      all ∙ ap (λ l. l ++ two) first.whole_is ∙ append_assoc first.front first.rest two;
  added = first.added;
}

-- a part that was added whole is a front
pub front_of_whole : (one two whole old new : List ℕ) → whole ≡ one ++ two → new ≡ old ++ one →
    AddsFront whole old new
front_of_whole one two whole old new all added =
    record { front = one; rest = two; whole_is = all; added = added }

-- what a `?` hands on
pub refused_adds : {T E : Type 0} (whole old new : List ℕ) (given : Result T E) (fault : E) →
    IsErrAnd given (λ e. e ≡ fault) → AddsFront whole old new → Adds whole old new given
refused_adds whole old new (Ok done) other is front = absurd is
refused_adds whole old new (Err fault) other is front = front

-- and whether a read failed
pub handed_failed : {T : Type 0} (given : Result T HistoryFault) (fault : HistoryFault) →
    IsErrAnd given (λ e. e ≡ fault) → failed_to_read given ≡ is_read_fault fault
handed_failed (Ok done) other is = absurd is
handed_failed (Err fault) other is = ap is_read_fault is

-- another word for the same text
pub reads_as : {T : Type 0} (one two : Image → List ℕ) (from to : Device) (old new : List ℕ)
    (given : Result T HistoryFault) → ((image : Image) → one image ≡ two image) →
    ReadsHistory one from to old new given → ReadsHistory two from to old new given
reads_as one two from to old new given same reads = record {
  told = λ image told. subst (λ text. Adds text old new given) (same image) (reads.told image told);
  quiet = reads.quiet;
  faults = reads.faults;
  read_faults = reads.read_faults;
}

-- nothing was read or added
pub reads_none : {T : Type 0} (text : Image → List ℕ) (from : Device) (old : List ℕ)
    (given : Result T HistoryFault) (fault : HistoryFault) → IsErrAnd given (λ e. e ≡ fault) →
    is_read_fault fault ≡ false → IsQuiet from from → ReadsHistory text from from old old given
reads_none text from old given fault is unread quiet =
    let failed = handed_failed given fault is ∙ unread in
    record {
      told = λ image told. refused_adds (text image) old old given fault is (adds_none (text image) old);
      quiet = quiet;
      faults = ap (λ b. counted b from.faults) (sym failed);
      read_faults = ap (λ b. counted b from.read_faults) (sym failed);
    }
