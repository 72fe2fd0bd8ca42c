-- How deep a tree may be.
use Rattle.std.specs.Prelude.{ℕ}

-- the level of the deepest nodes that a reader of a tree takes, where the root's is 1
abbrev pub depth_limit : ℕ
depth_limit = 32
