use Rattle.std.proofs.Common.{◌≡◌, ◌∙◌, ℕ, sym, ap, subst, Some, IsTrue}
use Rattle.bb_flash.specs.Device.{content}
use Rattle.bb_flash.specs.declared.geometry.Geometry.{Geometry}
use Rattle.bb_flash.specs.Image.{Image}
use Rattle.bb_bucket.specs.Front.{front_candidate, front_is_worn}
use Rattle.bb_bucket.specs.Kind.{part_of}
use Rattle.bb_bucket.specs.Seen.{IsLookOf, is_sight_of, sight_in}
use Rattle.bb_bucket.specs.Stride.{SeenStride}
use Rattle.bb_bucket.specs.StrideLaws.{held_by}
use Rattle.bb_bucket.proofs.Sights.{has_len, len_in}
use Rattle.bb_bucket.proofs.Quiet.{keeps_of_quiet}
use Rattle.bb_bucket.proofs.stride.StrideBucket.find.Goals as goal

pub returns-clause-done : goal.returns-clause-done
returns-clause-done g c = λ image told.
    let page : ℕ = (g.F.Flash.device c.args.flash.now).geometry.page in
    let region = c.args.self.now.region in
    let held = held_by region (g.F.Flash.device c.args.flash.now).geometry c.requires.serves in
    let memory = c.find_record.new.memory.items in
    (subst
    (λ (p : ℕ).
    IsLookOf (front_candidate p (part_of page region image))
    (front_is_worn p (part_of page region image)) memory c.in_ok-look.look)
    held.page
    (subst
    (λ (s : SeenStride).
    IsLookOf (front_candidate page (part_of page s.region image))
    (front_is_worn page (part_of page s.region image)) memory c.in_ok-look.look)
    c.self.view_is (c.in_ok-look.ensures.done image told))).is_found

pub returns-clause-found : goal.returns-clause-found
returns-clause-found g c =
    len_in c.find_record.new.memory.items c.in_ok-look.look.seen ∙ sym c.in_ok-look.ensures.len

pub returns-clause-agrees : goal.returns-clause-agrees
returns-clause-agrees g c =
    let keeps = keeps_of_quiet _ _ c.in_ok-look.ensures.quiet in
    let old = (g.F.Flash.device c.args.flash.now).geometry in
    let region = c.self.inside.region in
    let sight = sight_in c.find_record.new.memory.items c.in_ok-look.look.seen in
    let held = held_by c.args.self.now.region old c.requires.serves in
    let same : (image : Image) → content (g.F.Flash.device c.find_record.new.flash) ≡ Some image →
    IsTrue
    (is_sight_of sight
    (front_candidate 1 (part_of (g.F.Flash.device c.find_record.new.flash).geometry.page region image))) =
    λ image told.
    subst (λ (p : ℕ). IsTrue (is_sight_of sight (front_candidate 1 (part_of p region image))))
    (sym (ap (λ (geometry : Geometry). geometry.page) keeps.geometry))
    (subst (λ (p : ℕ). IsTrue (is_sight_of sight (front_candidate p (part_of old.page region image))))
    held.page (c.in_ok-look.ensures.done image (sym keeps.content ∙ told)).is_seen) in
    record { here = same; found = λ image told. has_len _ _ (same image told) }
