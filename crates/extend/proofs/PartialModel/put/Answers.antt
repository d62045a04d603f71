-- `extend::PartialModel::put` meets its contract. Assumes nothing.
use mathlib.Core.Path.{refl}
use Rattle.extend.proofs.Putting.{put_one}
use Rattle.extend.proofs.PartialModel.put.Goals as goal

pub returns : goal.returns
returns c = put_one c.requires c.from.ensures refl refl refl
