-- Demand 3, for every list of calls from a fresh store: the statement is `Claim` of specs/Demand3.
-- Each part is read off what every list of calls comes to; the sum of the added numbers off the steps themselves.
use mathlib.Core.Path.{ap}
use Rattle.family.specs.Book.{at}
use Rattle.lists.specs.Demand3.{Claim}
use Rattle.lists.proofs.Filing.{wider, filed_equal}
use Rattle.lists.proofs.Invariant.{limit_low}
use Rattle.lists.proofs.Reaching.{reached, beginnings, as_book, counts, held_is, means_within, handles_equal, keeps, lasts, files_filed}
use Rattle.lists.proofs.Members.{by_members}
use Rattle.lists.proofs.Summing.{sums}

pub demand_3 : Claim
demand_3 o calls answers x run =
    let R = reached run in
    record {
      beginnings = beginnings run;
      answered = as_book R;
      counted = counts R;
      summed = sums run;
      held = held_is R;
      meant = λ h l. ap (λ X. at X h) (held_is R);
      equal = handles_equal R;
      ordered = λ h l. means_within R h;
      equal_sets = λ h k l m. by_members (wider (limit_low R.inv) (means_within R h)) (wider (limit_low R.inv) (means_within R k)) (handles_equal R h k l m);
      kept = keeps R;
      lasting = λ more other h l. lasts R more (reached other) h l;
      files = λ other f g m n. filed_equal f g (files_filed R f m) (files_filed (reached other) g n);
      file_sets = λ other f g m n.
          let p = files_filed R f m in
          let q = files_filed (reached other) g n in
          by_members p.has.within q.has.within (filed_equal f g p q);
    }
