-- The promise of Audit: document 01, 'Calls' and 'Numbers and trade words'.
use Rattle.std.specs.Prelude.{ℕ, ◌*◌, ◌/◌, ◌≡◌, true, List, length}
use Rattle.words.specs.Words.{zeroed}
use Rattle.store.specs.declared.record.Store.{Store}
use Rattle.store.specs.Sound.{Sound}
use Rattle.store_audit.specs.declared.audit.Audited.{Audited}

-- Audit's promise. "Audit zeroes the whole cache groups and says yes exactly when the store is then sound"; "it never
-- changes anything but the whole cache groups", gives no refusal and hands the record back as it came.
pub record AuditCall (s : Store) (nodes lookup cache : List ℕ) (r : Audited) (cache' : List ℕ) : Type 0 where
  pub cache_is : cache' ≡ zeroed 0 (length cache / 4 * 4) cache
  pub sound_yes : Sound s nodes lookup cache' → r.sound ≡ true
  pub yes_sound : r.sound ≡ true → Sound s nodes lookup cache'
  pub store_is : r.store ≡ s
