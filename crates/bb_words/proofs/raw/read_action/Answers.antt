use Rattle.std.proofs.Common.{◌≡◌, ◌∙◌, refl, true, false, codes}
use Rattle.std.specs.Str.{bytes_eq}
use Rattle.bb_words.specs.Words.{Mode}
use Rattle.bb_words.proofs.Steps.{raised, read_on, lost_on, moved, missing, at_area, look_word, write_word, other_word}
use Rattle.bb_words.proofs.raw.read_action.Goals as goal

pub returns-in_err-word-clause-refused : goal.returns-in_err-word-clause-refused
returns-in_err-word-clause-refused c =
    raised _ c.from_residual.result c.in_err-word.field-0.0 c.from_residual.ensures.1
    (λ magic. missing 3 (Mode magic c.args.len) c.args.words.now _ refl c.in_err-word.ensures.refused)

pub returns-in_err-ends_at-clause-refused : goal.returns-in_err-ends_at-clause-refused
returns-in_err-ends_at-clause-refused c =
    let get : bytes_eq c.in_ok-word.word.now (codes "-g") ≡ true = cc in
    raised _ c.from_residual-in_err-ends_at.result c.in_err-ends_at.field-0.0 c.from_residual-in_err-ends_at.ensures.1
    (λ magic. moved _ _ _ (look_word magic c.args.len c.args.words.now _ c.in_ok-word.ensures.ok get) (c.in_err-ends_at.ensures.refused _))

pub returns-then-eq-clause-ok : goal.returns-then-eq-clause-ok
returns-then-eq-clause-ok c =
    let get : bytes_eq c.in_ok-word.word.now (codes "-g") ≡ true = cc in
    λ magic. look_word magic c.args.len c.args.words.now _ c.in_ok-word.ensures.ok get ∙ c.in_ok-ends_at.ensures.ok _

pub returns-in_err-area-clause-refused : goal.returns-in_err-area-clause-refused
returns-in_err-area-clause-refused c =
    let get : bytes_eq c.in_ok-word.word.now (codes "-g") ≡ false = cc in
    let set : bytes_eq c.in_ok-word.word.now (codes "-s") ≡ true = cc in
    raised _ c.from_residual-in_err-area.result c.in_err-area.field-0.0 c.from_residual-in_err-area.ensures.1
    (λ magic. moved _ _ _ (write_word magic c.args.len c.args.words.now _ c.in_ok-word.ensures.ok get set)
    (lost_on _ _ _ 4 _ (at_area 4 magic c.args.len c.args.words.now) c.in_err-area.ensures.refused))

pub returns-in_err-ends_at-2-clause-refused : goal.returns-in_err-ends_at-2-clause-refused
returns-in_err-ends_at-2-clause-refused c =
    let get : bytes_eq c.in_ok-word.word.now (codes "-g") ≡ false = cc in
    let set : bytes_eq c.in_ok-word.word.now (codes "-s") ≡ true = cc in
    raised _ c.from_residual-in_err-ends_at-2.result c.in_err-ends_at-2.field-0.0 c.from_residual-in_err-ends_at-2.ensures.1
    (λ magic. moved _ _ _ (write_word magic c.args.len c.args.words.now _ c.in_ok-word.ensures.ok get set
    ∙ read_on _ _ _ _ _ (at_area 4 magic c.args.len c.args.words.now) c.in_ok-area.ensures.ok) (c.in_err-ends_at-2.ensures.refused _))

pub returns-then-eq-2-clause-ok : goal.returns-then-eq-2-clause-ok
returns-then-eq-2-clause-ok c =
    let get : bytes_eq c.in_ok-word.word.now (codes "-g") ≡ false = cc in
    let set : bytes_eq c.in_ok-word.word.now (codes "-s") ≡ true = cc in
    λ magic. write_word magic c.args.len c.args.words.now _ c.in_ok-word.ensures.ok get set
    ∙ read_on _ _ _ _ _ (at_area 4 magic c.args.len c.args.words.now) c.in_ok-area.ensures.ok ∙ c.in_ok-ends_at-2.ensures.ok _

pub returns-clause-refused : goal.returns-clause-refused
returns-clause-refused c =
    let get : bytes_eq c.in_ok-word.word.now (codes "-g") ≡ false = cc in
    let set : bytes_eq c.in_ok-word.word.now (codes "-s") ≡ false = cc in
    λ magic. other_word magic c.args.len c.args.words.now _ c.in_ok-word.ensures.ok get set
