-- `view::text::put_byte` meets its contract. Assumes nothing.
use Rattle.view.proofs.Puts.{put_one}
use Rattle.view.proofs.text.put_byte.Goals as goal

pub returns : goal.returns
returns c = put_one c.args.at c.args.b c.args.out.now c.requires
