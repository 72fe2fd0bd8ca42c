-- Areas that are converted, by computation: two variables, of bytes 1 to 2 and 4 to 7, with
-- nothing at 0 and 3.
use Rattle.std.proofs.Common.{◌≡◌, List, [], ◌∷◌, codes, refl}
use Rattle.bb_vars.specs.declared.kind.Kind.TheVariants.{Chars, Uint32}
use Rattle.bb_layout.specs.Convert.{convert_of}
use Rattle.bb_layout.specs.declared.var.Var.{Var}

abbrev vars : List Var
vars =
    record { name = codes "a"; path = codes "a@1" ∷ []; at = 1; size = 2; kind = Chars 2; default = 65 ∷ 66 ∷ [] }
    ∷ record { name = codes "b"; path = codes "b@4" ∷ []; at = 4; size = 4; kind = Uint32; default = 9 ∷ 0 ∷ 0 ∷ 0 ∷ [] }
    ∷ []

nothing_stored : convert_of 8 vars [] ≡ 0 ∷ 65 ∷ 66 ∷ 0 ∷ 9 ∷ 0 ∷ 0 ∷ 0 ∷ []
nothing_stored = refl

-- a byte outside the variables is kept, and half a variable isn't
stored_inside_the_first : convert_of 8 vars (201 ∷ 202 ∷ []) ≡ 201 ∷ 65 ∷ 66 ∷ 0 ∷ 9 ∷ 0 ∷ 0 ∷ 0 ∷ []
stored_inside_the_first = refl

-- a variable that ends where the stored area ends is kept
stored_up_to_the_first : convert_of 8 vars (201 ∷ 202 ∷ 203 ∷ []) ≡ 201 ∷ 202 ∷ 203 ∷ 0 ∷ 9 ∷ 0 ∷ 0 ∷ 0 ∷ []
stored_up_to_the_first = refl

stored_between_two : convert_of 8 vars (201 ∷ 202 ∷ 203 ∷ 204 ∷ []) ≡ 201 ∷ 202 ∷ 203 ∷ 204 ∷ 9 ∷ 0 ∷ 0 ∷ 0 ∷ []
stored_between_two = refl

-- the last variable ends one byte past the stored area
stored_but_for_a_byte : convert_of 8 vars (201 ∷ 202 ∷ 203 ∷ 204 ∷ 205 ∷ 206 ∷ 207 ∷ [])
    ≡ 201 ∷ 202 ∷ 203 ∷ 204 ∷ 9 ∷ 0 ∷ 0 ∷ 0 ∷ []
stored_but_for_a_byte = refl

stored_whole : convert_of 8 vars (201 ∷ 202 ∷ 203 ∷ 204 ∷ 205 ∷ 206 ∷ 207 ∷ 208 ∷ [])
    ≡ 201 ∷ 202 ∷ 203 ∷ 204 ∷ 205 ∷ 206 ∷ 207 ∷ 208 ∷ []
stored_whole = refl

-- what stands after the layout's last variable isn't read
stored_longer : convert_of 8 vars (201 ∷ 202 ∷ 203 ∷ 204 ∷ 205 ∷ 206 ∷ 207 ∷ 208 ∷ 209 ∷ 210 ∷ [])
    ≡ 201 ∷ 202 ∷ 203 ∷ 204 ∷ 205 ∷ 206 ∷ 207 ∷ 208 ∷ []
stored_longer = refl

-- an area without variables, as `raw` has it
without_variables : convert_of 4 [] (201 ∷ 202 ∷ []) ≡ 201 ∷ 202 ∷ 0 ∷ 0 ∷ []
without_variables = refl
