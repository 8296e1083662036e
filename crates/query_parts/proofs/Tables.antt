-- A table with a handle more, whose chains lead to every handle again.
-- The new place is the head of its chain and leads on to the old head; no old chain goes through it.
use Prim.Native.Nat.{ℕ, suc, ◌+◌, ◌%◌, ◌<◌}
use mathlib.Core.Path.{◌≡◌, ap, ◌∙◌}
use mathlib.Core.List.{List}
use native.Mathlib.Omega.{arith}
use native.Mathlib.Nat.{mod-lt}
use native.Mathlib.Numerals.{add-one}
use lib.ListN.{length, get_or, set, length-set}
use lib.Seq.{get_or-set_same, get_or-set_other}
use Rattle.words.proofs.Cases.{by_eq}
use Rattle.query_parts.specs.declared.entries.Parts.{Parts}
use Rattle.query_parts.specs.Inner.{size_at, handle_in, next_in, head_in, handle_at, next_at, head_at, Linked, Headed, Leads, here, on, Table, EnterAsks, Entered}
use Rattle.query_parts.proofs.Chains.{leads_same}

-- the tags of a table after its new place is linked and is the head of its chain
record Chained (places n handle : ℕ) (words words' : List ℕ) : Type 0 where
  handle_is : handle_at words' n ≡ handle
  next_is : next_at words' n ≡ head_at words (handle % places)
  head_is : head_at words' (handle % places) ≡ n + 1
  handles_stay : (e : ℕ) → e < n → handle_at words' e ≡ handle_at words e
  nexts_stay : (e : ℕ) → e < n → next_at words' e ≡ next_at words e
  heads_stay : (k : ℕ) → k < places → (k ≡ handle % places → ⊥) → head_at words' k ≡ head_at words k

module _ {places n handle : ℕ} {words words' : List ℕ} (T : Table places n words) (room : n < places) (long : length words' ≡ length words) (C : Chained places n handle words words') where
  below : (h : ℕ) → h % places < places
  below h = mod-lt h (omega arith)

  -- no old chain goes through the new place
  old : (h : ℕ) {b : ℕ} → Leads (λ k. next_at words k) (head_at words (h % places)) b → Leads (λ k. next_at words' k) (head_at words (h % places)) b
  old h w = leads_same n T.links C.nexts_stay (T.heads (h % places) (below h)) w

  -- the chain of every handle leads where it did, that of the new one by way of the new place
  chain : (h b : ℕ) → Leads (λ k. next_at words k) (head_at words (h % places)) b → Leads (λ k. next_at words' k) (head_at words' (h % places)) b
  chain h b w =
      by_eq (h % places) (handle % places)
      (λ q d. rw (q, C.head_is, add-one n) (on {k = n} {a = b} (rw C.next_is (old handle (rw q at w)))))
      (λ q d. rw (C.heads_stay (h % places) (below h) q) (old h w))

  table_entered : Table places (n + 1) words'
  table_entered =
      record {
        long = omega (arith, T.long);
        few = omega arith;
        small = T.small;
        heads = λ k l. by_eq k (handle % places)
            (λ q d. rw (q, C.head_is) (omega arith))
            (λ q d. omega (arith, C.heads_stay k l q, T.heads k l));
        links = λ e l. by_eq e n
            (λ q d. rw (q, C.next_is) (T.heads (handle % places) (below handle)))
            (λ q d. omega (arith, C.nexts_stay e (omega arith), T.links e (omega arith)));
        leads = λ e l. by_eq e n
            (λ q d. rw (q, C.handle_is, C.head_is, add-one n) here)
            (λ q d. rw (C.handles_stay e (omega arith)) (chain (handle_at words e) (suc e) (T.leads e (omega arith))));
      }

-- what a write leaves of every word, where it leaves it of its own
stays : (f : ℕ → ℕ) (words : List ℕ) (i v : ℕ) → i < length words → f v ≡ f (get_or words i 0) → (k : ℕ) → f (get_or (set words i v) k 0) ≡ f (get_or words k 0)
stays f words i v l e k =
    by_eq k i
    (λ q d. rw q (ap f (get_or-set_same words i v 0 l) ∙ e))
    (λ q d. ap f (get_or-set_other words i k v 0 q))

module _ (t : Parts) (handle size next x y : ℕ) (asks : EnterAsks t handle) (is : next ≡ head_at t.words.now (handle % t.places)) (L : Linked (get_or t.words.now t.entered 0) handle next x)
    (H : Headed (get_or (set t.words.now t.entered x) (handle % t.places) 0) (t.entered + 1) y) where
  abbrev words : List ℕ
  words = t.words.now

  abbrev places : ℕ
  places = t.places

  abbrev n : ℕ
  n = t.entered

  abbrev start : ℕ
  start = handle % places

  abbrev first : List ℕ
  first = set words n x

  abbrev second : List ℕ
  second = set first start y

  abbrev last : List ℕ
  last = set second (places + n) size

  start_in : start < places
  start_in = mod-lt handle (omega (arith, asks.room))

  -- the three places are in the table
  first_in : n < length words
  first_in = omega (arith, asks.room, asks.table.long)

  second_in : start < length first
  second_in = omega (arith, start_in, asks.table.long, length-set words n x)

  last_in : places + n < length second
  last_in = omega (arith, asks.room, asks.table.long, length-set first start y, length-set words n x)

  same_long : length last ≡ length words
  same_long = length-set second (places + n) size ∙ length-set first start y ∙ length-set words n x

  -- the size is behind all tags
  tag_stays : (k : ℕ) → k < places → get_or last k 0 ≡ get_or second k 0
  tag_stays k l = get_or-set_other second (places + n) k size 0 (λ q. omega arith)

  -- handle and place before: those of the new tag, and of the others
  module _ (f : ℕ → ℕ) (same : f y ≡ f (get_or first start 0)) where
    linked_stays : (e : ℕ) → e < places → f (get_or last e 0) ≡ f (get_or first e 0)
    linked_stays e l = ap f (tag_stays e l) ∙ stays f first start y second_in same e

    new_is : f (get_or last n 0) ≡ f x
    new_is = linked_stays n asks.room ∙ ap f (get_or-set_same words n x 0 first_in)

    old_is : (e : ℕ) → e < n → f (get_or last e 0) ≡ f (get_or words e 0)
    old_is e l = linked_stays e (omega (arith, asks.room)) ∙ ap f (get_or-set_other words n e x 0 (λ q. omega arith))

  chained : Chained places n handle words last
  chained =
      record {
        handle_is = new_is handle_in H.handle_stays ∙ L.handle_is;
        next_is = new_is next_in H.next_stays ∙ L.next_is ∙ is;
        head_is = ap head_in (tag_stays start start_in ∙ get_or-set_same first start y 0 second_in) ∙ H.head_is;
        handles_stay = old_is handle_in H.handle_stays;
        nexts_stay = old_is next_in H.next_stays;
        heads_stay = λ k l d. ap head_in (tag_stays k l ∙ get_or-set_other first start k y 0 d) ∙ stays head_in words n x first_in L.head_stays k;
      }

  pub entered : (t' : Parts) → t'.places ≡ places → t'.entered ≡ n + 1 → t'.words.now ≡ last → Entered handle size t t'
  entered t' same more w =
      record {
        places_stay = same;
        one_more = more;
        long = ap length w ∙ same_long;
        table = rw (same, more, w) (table_entered asks.table asks.room same_long chained);
        handle_is = ap (λ l. handle_at l n) w ∙ chained.handle_is;
        size_is = ap (λ l. size_at places l n) w ∙ get_or-set_same second (places + n) size 0 last_in;
        handles_stay = λ e l. ap (λ l'. handle_at l' e) w ∙ chained.handles_stay e l;
        sizes_stay = λ e l.
            ap (λ l'. size_at places l' e) w
            ∙ get_or-set_other second (places + n) (places + e) size 0 (λ q. omega arith)
            ∙ get_or-set_other first start (places + e) y 0 (λ q. omega (arith, start_in))
            ∙ get_or-set_other words n (places + e) x 0 (λ q. omega (arith, asks.room));
      }
