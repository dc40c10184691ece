use Rattle.bcv_talks.proofs.TalkStarts.{back_is_begun, new_is_begun}
use Rattle.bcv_talks.proofs.talks.talks_begin.Goals as goal

pub returns-clause-back : goal.returns-clause-back
returns-clause-back g c = back_is_begun g.D.Disk.shown c.args.client.now

pub returns-clause-new : goal.returns-clause-new
returns-clause-new g c = new_is_begun g.D.Disk.shown c.args.client.now
