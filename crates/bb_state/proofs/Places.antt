-- Where the copies of a layout stand.
use Rattle.std.proofs.Common.{◌≡◌, ℕ, ◌<◌, ◌≤◌, Bool, Option, None, Some, if◌then◌else◌, sym, ap, subst}
use Rattle.std.specs.Prelude.{nat_lt}
use Rattle.std.proofs.lemmas.Bool.{le-ltb, lt-ltb}
use Rattle.bb_flash.specs.declared.region.Region.{Region}
use Rattle.bb_layout.specs.Copies.{region_of}
use Rattle.bb_layout.specs.Layout.{Laid}

-- the region of a copy of this number, if there is one
abbrev pub RegionAt : Laid → ℕ → Option Region
RegionAt laid copy =
    if nat_lt copy laid.copies then Some (region_of laid.geometry laid.storage laid.region copy) else None

pub region_there : (layout laid : Laid) (copy : ℕ) → layout ≡ laid → copy < layout.copies →
    Some (region_of layout.geometry layout.storage layout.region copy) ≡ RegionAt laid copy
region_there layout laid copy is below =
    subst (λ (l : Laid). Some (region_of layout.geometry layout.storage layout.region copy) ≡ RegionAt l copy) is
    (ap (λ (b : Bool). if b then Some (region_of layout.geometry layout.storage layout.region copy) else None)
    (sym (lt-ltb copy layout.copies below)))

pub region_none : (layout laid : Laid) (copy : ℕ) → layout ≡ laid → layout.copies ≤ copy →
    None ≡ RegionAt laid copy
region_none layout laid copy is behind =
    subst (λ (l : Laid). None ≡ RegionAt l copy) is
    (ap (λ (b : Bool). if b then Some (region_of layout.geometry layout.storage layout.region copy) else None)
    (sym (le-ltb copy layout.copies behind)))
