-- A log opened: what Fresh leaves, given the limit of all items, keeps the log of no byte.
-- The store is sound and blank, so both handles are of the empty family; the rest is by the tally's fields.
use Prim.Native.Nat.{ℕ, ◌+◌, ◌*◌, ◌/◌, ◌≤◌}
use mathlib.Core.Path.{◌≡◌, refl, ap, ◌∙◌}
use mathlib.Core.List.{List}
use native.Mathlib.Omega.{arith}
use lib.ListN.{length}
use Rattle.family.specs.Family.{largest_item}
use Rattle.family.specs.Book.{start, at}
use Rattle.words.specs.Words.{zeroed}
use Rattle.std.specs.Prelude.{⊤}
use Rattle.store.specs.declared.record.Answered.{Answered}
use Rattle.report_line.specs.declared.Reading.{Reading}
use Rattle.report_line.specs.Line.{begin, state_of}
use Rattle.store.specs.Capacity.{capacity_of}
use Rattle.store.specs.Words.{book_of}
use Rattle.store_fresh.specs.Promise.{fresh_leaves, fresh_done, FreshCall}
use Rattle.store_fresh.proofs.Freshly.{fresh_is}
use Rattle.store.proofs.Fitting.{true_limit}
use Rattle.store.proofs.Sounds.{fresh_sound}
use Rattle.report_tally.specs.declared.Ending.TheVariants.{Going}
use Rattle.report_tally.specs.Log.{opening}
use Rattle.report_tally.specs.Promise.{Keeps, OpenCall}

pub opened : {limit : ℕ} {nodes lookup cache : List ℕ} {f : Answered ⊤} {nodes' lookup' cache' : List ℕ} → FreshCall limit nodes lookup cache f nodes' lookup' cache' → limit ≡ largest_item → {p q : ℕ} {r : Reading}
    → p ≡ 0 → q ≡ 0 → state_of r ≡ begin → OpenCall nodes lookup (record { store = f.store; passed = p; returned = q; lines = 0; reading = r; ending = Going }) nodes' lookup' cache'
unfolding book_of
opened {limit} {nodes} {lookup} {cache} {f} {nodes'} {lookup'} {cache'} C ei {p} {q} {r} ep eq er = record { keeps = go }
  where
    left : 3 ≤ length nodes → capacity_of (length nodes) + 1 ≤ length lookup → fresh_leaves f nodes' lookup' cache' ≡ fresh_done limit nodes lookup cache
    left l h = C.leaves_is ∙ fresh_is limit nodes lookup cache (record { some = l; longer = omega arith; limit_is = true_limit limit (omega arith) (omega arith) })

    go : 3 ≤ length nodes → capacity_of (length nodes) + 1 ≤ length lookup → Keeps (capacity_of (length nodes)) (record { store = f.store; passed = p; returned = q; lines = 0; reading = r; ending = Going }) nodes' lookup' cache' opening
    go l h =
        let L = left l h in
        let x : f.store ≡ record { capacity = capacity_of (length nodes); count = 0; limit = limit } = ap (λ y. y.store) L in
        let en : nodes' ≡ zeroed 0 (3 * capacity_of (length nodes)) nodes = ap (λ y. y.nodes) L in
        let el : lookup' ≡ zeroed 0 (length lookup) lookup = ap (λ y. y.lookup) L in
        let ec : cache' ≡ zeroed 0 (length cache / 4 * 4) cache = ap (λ y. y.cache) L in
        record {
          sound = rw (x, en, el, ec) (fresh_sound limit nodes lookup cache (omega arith) (omega arith) (omega arith));
          capacity_is = ap (λ y. y.capacity) x;
          limit_is = ap (λ y. y.limit) x ∙ ei;
          book_is = ap (λ y. book_of nodes' y.count) x;
          passed_held = omega arith;
          passed_is = ap (λ y. at (book_of nodes' y.count) p) x ∙ ap (λ k. at start k) ep;
          returned_held = omega arith;
          returned_is = ap (λ y. at (book_of nodes' y.count) q) x ∙ ap (λ k. at start k) eq;
          lines_is = refl;
          line_is = er;
          ending_is = refl;
        }
