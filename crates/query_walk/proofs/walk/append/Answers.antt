-- `append` puts a handle behind those entered, where there is a place.
-- The place entered is that of the family at the local book's end.
use Rattle.query_walk.proofs.Listing.{append_done}
use Rattle.query_walk.proofs.walk.append.Goals as goal

pub returns : goal.returns
returns c = append_done _ _ c.enter.ensures _ c.unwrap_or.ensures
