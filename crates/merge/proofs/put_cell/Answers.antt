-- `put_cell` leaves `Put`: an absent cell changes nothing, a present one is written at e.
use Rattle.merge.proofs.Merging.{put_none, put_one}
use Rattle.merge.proofs.put_cell.Goals as goal

pub returns-in-None : goal.returns-in-None
returns-in-None c = put_none _ _ _ _ _ c.in-None.is

pub returns-in-Some : goal.returns-in-Some
returns-in-Some c = put_one _ _ _ _ _ c.in-Some.is
