-- `view::listing::list_at` meets its contract: the check of the room, then the refusal or the listing in front of the buffer. Assumes nothing.
use lib.ListN.{length}
use borrow.Author.Tests.{le-ltb}
use Rattle.view.specs.Listing.{room}
use Rattle.view.proofs.Puts.{put_front}
use Rattle.view.proofs.listing.list_at.Goals as goal

pub returns-in-None : goal.returns-in-None
returns-in-None c =
    rw (le-ltb (length c.args.out.now) room c.if-out-lt-ROOM.false, c.in-None.is) (put_front c.list_from.ensures.lists c.list_from.ensures.put)
