-- How many bytes of the memory for the longest area are the stored one after a load.
use Rattle.std.specs.Prelude.{ℕ, Result, Ok, Err}
use Rattle.bb_copies.specs.declared.answers.CopyFault.{CopyFault}
use Rattle.bb_copies.specs.declared.answers.Loaded.{Loaded}
use Rattle.bb_copies.specs.declared.answers.Loaded.TheVariants.{Copy, NoCopy}

abbrev pub stored_len_of : Result Loaded CopyFault → ℕ
stored_len_of (Ok (Copy used live len old)) = len
stored_len_of (Ok NoCopy) = 0
stored_len_of (Err fault) = 0
