-- What an exported function promises: C is given exactly what the call behind it gave, with that call's whole promise.
use Rattle.std.specs.Prelude.{◌≡◌}

-- The promise of an export: the call behind it gave a result that keeps that call's whole promise, and C is given
-- what `shown` sets out for that result.
pub record Exported {Behind C : Type 0} (shown : Behind → C) (Promise : Behind → Type 0) (r : C) : Type 0 where
  pub behind : Behind
  pub keeps : Promise behind
  pub given_is : r ≡ shown behind
