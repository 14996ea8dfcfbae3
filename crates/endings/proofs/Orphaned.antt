-- Extents that have lost a maker, as blocks have.
use Rattle.std.proofs.Common.{◌≡◌, ℕ, zero, suc, ◌<◌, eqb, List, [], ◌∷◌, map, length, get_or, sym, refl, ◌∙◌, arith, ext_get_or}
use lib.ListN.{length-map, get_or-map}
use Rattle.lists.proofs.Cases.{by_test}
use Rattle.ledger.specs.Expirations.{departed}
use Rattle.record.specs.Tables.{maker_in, block_entry, blocks_of, block_entries}
use Rattle.record.proofs.Columns.{entry_made}
use Rattle.expirations.specs.Places.{Changed}
use Rattle.steps.specs.Events.{orphaned_block}
use Rattle.steps.proofs.Orphans.{nobody_left}
use Rattle.endings.specs.Late.{leaver_in}
use Rattle.endings.specs.Makers.{orphaned_extent, orphaned_by, orphaned_extents}
use Rattle.endings.specs.declared.Passing.{Passing}

orphaned_entry : (leaver handle extent : ℕ) → block_entry handle (orphaned_extent leaver extent) ≡ orphaned_block leaver (block_entry handle extent)
orphaned_entry leaver handle extent =
    by_test (eqb (maker_in extent) leaver)
    (λ e. rw e (entry_made handle extent departed (omega arith)))
    (λ e. rw e)

blocks_orphaned : (leaver : ℕ) (hs ls : List ℕ) → blocks_of hs (map (orphaned_extent leaver) ls) ≡ map (orphaned_block leaver) (blocks_of hs ls)
unfolding blocks_of
blocks_orphaned leaver [] [] = refl
blocks_orphaned leaver [] (l ∷ ls) = refl
blocks_orphaned leaver (h ∷ hs) [] = refl
blocks_orphaned leaver (h ∷ hs) (l ∷ ls) = rw (orphaned_entry leaver h l, blocks_orphaned leaver hs ls)

-- all of them, whatever handles stand beside them
pub orphaned_blocks : (t : Passing) (hs ls : List ℕ) → blocks_of hs (orphaned_extents t ls) ≡ map (orphaned_block (leaver_in t)) (blocks_of hs ls)
orphaned_blocks t hs ls =
    by_test t.leaves
    (λ e. rw e (blocks_orphaned t.task hs ls))
    (λ e. rw e (sym (nobody_left (blocks_of hs ls))))

pub orphaned_size : (t : Passing) (ls : List ℕ) → length (orphaned_extents t ls) ≡ length ls
orphaned_size t ls = by_test t.leaves (λ e. rw e (length-map ls (orphaned_extent t.task))) (λ e. rw e)

-- an element within the list, whatever is read past its end
within {ℓ} : {A : Type ℓ} (xs : List A) (k : ℕ) (d e : A) → k < length xs → get_or xs k d ≡ get_or xs k e
within [] k d e h = absurd (omega arith)
within (x ∷ xs) zero d e h = refl
within (x ∷ xs) (suc k) d e h = within xs k d e (omega arith)

-- place by place, each by its own maker, it is the map
pub orphaned_all : (leaver : ℕ) {ls out : List ℕ} → length ls ≡ block_entries → Changed 0 (orphaned_by leaver ls) 0 block_entries ls out
    → out ≡ map (orphaned_extent leaver) ls
orphaned_all leaver {ls} {out} n s =
    let made = orphaned_extent leaver in
    let size = length-map ls made in
    ext_get_or 0 out (map made ls)
    (s.size ∙ sym size)
    (λ k m.
    s.inside k (omega arith) (omega (arith, s.size))
    ∙ sym (get_or-map made ls k 0)
    ∙ within (map made ls) k (made 0) 0 (omega (arith, s.size, size)))
