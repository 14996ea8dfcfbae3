-- What is left of a block's handle.
use Rattle.std.specs.Prelude.{ℕ, Bool, false, cond, List, slice_index_or}

-- a handle, by the flags: that of a block which none names is given up
abbrev pub kept_by_flag : List Bool → ℕ → ℕ → ℕ
kept_by_flag flags block handle = cond (slice_index_or flags block false) handle 0
