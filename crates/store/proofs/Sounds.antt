-- A sound store from a book that its words hold, and that what Fresh leaves is sound.
-- Each rule of a sound store is read off the book's laws; a lookup and a cache of zeros are those of no node.
use Prim.Native.Nat.{ℕ, ◌+◌, ◌*◌, ◌/◌, ◌≤◌, ◌<◌}
use mathlib.Core.Path.{◌≡◌, refl, sym, ap, ◌∙◌}
use mathlib.Core.List.{List, []}
use mathlib.Core.Logic.{inl}
use native.Mathlib.Omega.{arith}
use lib.ListN.{length, get_or, replicate}
use lib.Seq.{ext_get_or}
use Rattle.family.specs.Family.{Family, node, Within, largest_item}
use Rattle.family.specs.Book.{start, at}
use Rattle.family.proofs.Books.{book_start}
use Rattle.words.specs.Words.{zeroed}
use Rattle.words.proofs.Zeroed.{zeroed_length, zeroed_inside, zeros_length, zero_get_d}
use Rattle.table.specs.Entered.{entered}
use Rattle.store.specs.declared.record.Store.{Store}
use Rattle.store.specs.Capacity.{capacity_of}
use Rattle.store.specs.Words.{book_of}
use Rattle.store.specs.Cache.{Group, True}
use Rattle.store.specs.Sound.{Node, Sound}
use Rattle.store.specs.Inner.{Holds}
use Rattle.store.proofs.Held.{within, top_at_lem, one_positive, words_apart}
use Rattle.store.proofs.Decoding.{decoded}

module _ {limit : ℕ} {B : List Family} {n : ℕ} {nodes lookup : List ℕ} (H : Holds limit B n nodes lookup) where
  node_rules : (k : ℕ) → k < n → Node limit nodes k (get_or nodes (3 * k) 0) (get_or nodes (3 * k + 1) 0) (get_or nodes (3 * k + 2) 0)
  node_rules k l =
      let E = H.each k l in
      let z = get_or nodes (3 * k + 1) 0 in
      let o = get_or nodes (3 * k + 2) 0 in
      let lz : z < n + 2 = omega (arith, E.zero_before) in
      let lo : o < n + 2 = omega (arith, E.one_before) in
      let w : Within limit (node (get_or nodes (3 * k) 0) (at B z) (at B o)) = rw E.is at (within H (k + 2) (omega arith)) in
      record {
        item_limit = w.low;
        one_some = one_positive H o lo w.ordered.2;
        zero_before = E.zero_before;
        one_before = E.one_before;
        zero_below = omega (arith, w.ordered.0, top_at_lem H z lz);
        one_below = omega (arith, w.ordered.1, top_at_lem H o lo);
      }

pub holds_sound : {B : List Family} {nodes lookup cache : List ℕ} (s : Store) → 1 ≤ s.limit → Holds s.limit B s.count nodes lookup → s.capacity ≡ capacity_of (length nodes) → s.capacity < length lookup → s.count ≤ s.capacity
    → ((k : ℕ) → 3 * s.count ≤ k → k < 3 * s.capacity → get_or nodes k 0 ≡ 0) → True s.limit B cache → Sound s nodes lookup cache
holds_sound s i H c l w b t =
    record {
      capacity_is = c;
      longer = l;
      within = w;
      limit_some = i;
      limit_low = H.limit_low;
      each = node_rules H;
      apart = λ j k f h p q r. (words_apart H).apart j k f h (record { item_is = p; zero_is = q; one_is = r });
      blank = b;
      lookup_is = H.lookup_is;
      cached = rw (decoded H) t;
    }

-- whole groups of zeros are true of every book
pub zeroed_true : {limit : ℕ} (B : List Family) (cache : List ℕ) → True limit B (zeroed 0 (length cache / 4 * 4) cache)
zeroed_true B cache = record { each = λ g op p q h G. inl (blank g G.within) }
  where
    end : ℕ
    end = length cache / 4 * 4

    long : length (zeroed 0 (length cache / 4 * 4) cache) ≡ length cache
    long = zeroed_length 0 (length cache / 4 * 4) cache (omega arith) (omega arith)

    word : (k : ℕ) → k < length cache / 4 * 4 → get_or (zeroed 0 (length cache / 4 * 4) cache) k 0 ≡ 0
    word k l = zeroed_inside 0 (length cache / 4 * 4) cache (omega arith) (omega arith) k (omega arith) l

    blank : (g : ℕ) → 4 * g + 3 < length (zeroed 0 (length cache / 4 * 4) cache) → Group (zeroed 0 (length cache / 4 * 4) cache) g 0 0 0 0
    blank g l =
        let e = long in
        let f : 4 * g + 3 < length cache / 4 * 4 = omega arith in
        record { within = l; op_is = word (4 * g) (omega arith); first_is = word (4 * g + 1) (omega arith); second_is = word (4 * g + 2) (omega arith); result_is = word (4 * g + 3) (omega arith) }

-- the same store with another true cache
pub sound_with : {s : Store} {nodes lookup cache : List ℕ} (other : List ℕ) → Sound s nodes lookup cache → True s.limit (book_of nodes s.count) other → Sound s nodes lookup other
sound_with other S t =
    record {
      capacity_is = S.capacity_is;
      longer = S.longer;
      within = S.within;
      limit_some = S.limit_some;
      limit_low = S.limit_low;
      each = S.each;
      apart = S.apart;
      blank = S.blank;
      lookup_is = S.lookup_is;
      cached = t;
    }

-- a sound store is sound with no cache lent
pub bare : {s : Store} {nodes lookup cache : List ℕ} → Sound s nodes lookup cache → Sound s nodes lookup []
bare S = sound_with [] S (record { each = λ g op p q h G. absurd (omega (arith, G.within)) })

pub all_zero : (l : List ℕ) → zeroed 0 (length l) l ≡ replicate (length l) 0
all_zero l =
    let e = zeroed_length 0 (length l) l (omega arith) (omega arith) in
    ext_get_or 0 (zeroed 0 (length l) l) (replicate (length l) 0) (e ∙ sym (zeros_length (length l)))
    (λ k h. zeroed_inside 0 (length l) l (omega arith) (omega arith) k (omega arith) (omega arith) ∙ sym (zero_get_d (length l) k))

-- what Fresh leaves
pub fresh_sound : (limit : ℕ) (nodes lookup cache : List ℕ) → 1 ≤ limit → limit ≤ largest_item → capacity_of (length nodes) < length lookup
    → Sound (record { capacity = capacity_of (length nodes); count = 0; limit = limit }) (zeroed 0 (3 * capacity_of (length nodes)) nodes) (zeroed 0 (length lookup) lookup) (zeroed 0 (length cache / 4 * 4) cache)
unfolding entered
fresh_sound limit nodes lookup cache some low l =
    let n = zeroed_length 0 (3 * capacity_of (length nodes)) nodes (omega arith) (omega arith) in
    let k = zeroed_length 0 (length lookup) lookup (omega arith) (omega arith) in
    let e = all_zero lookup in
    holds_sound {B = start} (record { capacity = capacity_of (length nodes); count = 0; limit = limit }) some
    (record { limit_low = low; book = book_start limit; size = refl; each = λ j h. absurd (omega arith); lookup_is = rw (k, e) })
    (ap capacity_of (sym n)) (omega arith) (omega arith)
    (λ j h g. zeroed_inside 0 (3 * capacity_of (length nodes)) nodes (omega arith) (omega arith) j (omega arith) g)
    (zeroed_true start cache)
