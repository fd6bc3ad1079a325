-- `setting::is_in_range` meets its contract: its one expression is the definition.
use Rattle.std.proofs.Common.{refl}
use Rattle.setting.specs.Setting.{in_range}
use Rattle.setting.proofs.is_in_range.Goals as goal

pub returns : goal.returns
unfolding in_range
returns c =
    refl
