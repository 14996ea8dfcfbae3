-- A make leaves the shares kept: it is below its limit, and takes a block that is left for it.
use Prim.Native.Nat.{ℕ, ◌+◌}
use mathlib.Core.Bool.{true}
use mathlib.Core.List.{List}
use mathlib.Core.Path.{◌≡◌, ◌∙◌}
use borrow.Author.Tests.{eq-eqb}
use lib.ListN.{replicate, length-replicate}
use Rattle.ledger.specs.Limits.{is_small}
use Rattle.ledger.specs.Rules.{memory_after}
use Rattle.ledger.specs.declared.Kind.{Kind}
use Rattle.ledger.proofs.KeptShares.{shares_filter, shares_made}
use Rattle.record.specs.Reading.{whole_small, whole_large, is_whole_small, is_whole_large, Typed}
use Rattle.record.specs.Tables.{Tables}
use Rattle.record.proofs.Exists.{fit_tables_read}
use Rattle.record.proofs.Facts.{Fit, Shared}
use Rattle.steps.specs.Objects.{free_place, free_slot, entry_for, with_entry, with_object}
use Rattle.steps.proofs.Chosen.{Taken}
use Rattle.steps.proofs.ReadMade.{made_reads}
use Rattle.steps.proofs.Shares.{full_alike, limit_alike, shared_kept, kept_shared}
use Rattle.steps.proofs.StoreBytes.{made_bytes}

pub shared_made : (p : Tables) → Fit p → Typed p → (kind : Kind) (task extension size prefix : ℕ) → Taken task extension size prefix p → Shared p
    → (let place = free_place p.limits size p.blocks in
    Shared (with_entry (free_slot p.expirations) (entry_for kind task extension place p) (with_object task place size prefix p)))
unfolding memory_after
shared_made p fit types kind task extension size prefix taken shared =
    let small : List ℕ = replicate (whole_small p.limits) 0 in
    let large : List ℕ = replicate (whole_large p.limits) 0 in
    let s : is_whole_small p.limits small ≡ true = eq-eqb _ _ (length-replicate (whole_small p.limits) 0) in
    let l : is_whole_large p.limits large ≡ true = eq-eqb _ _ (length-replicate (whole_large p.limits) 0) in
    let (L, reads) = fit_tables_read p types fit small large in
    let after = made_reads p small large _ _ L fit types reads kind task extension size prefix _ _ taken.may taken.block taken.entry s l
    (made_bytes p.limits fit.allowed small large s l _ taken.block.its) in
    kept_shared after types.shares
    (shares_filter _
    (shares_made L.memory.limits L.memory.clocks L.memory.shares L.memory.objects task (L.memory.given + 1) size prefix taken.may.known
    (limit_alike reads (is_small size) task ∙ taken.limited) (full_alike reads (is_small size) task ∙ taken.filled)
    (shared_kept reads types.shares shared)))
