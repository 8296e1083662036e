-- `audit` zeroes the whole cache groups and decides.
-- Zeroed groups are true of every book, so the rest of the store decides.
use Rattle.store_audit.proofs.Verdict.{audit_call}
use Rattle.store_audit.proofs.audit.audit.Goals as goal

pub returns : goal.returns
returns c = audit_call _ _ _ _ _ _ c.zero_groups.ensures c.is_sound-sound.ensures
