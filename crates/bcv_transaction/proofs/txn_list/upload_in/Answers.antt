use Rattle.bcv_transaction.proofs.UploadedCache.{uploaded}
use Rattle.bcv_transaction.proofs.txn_list.upload_in.Goals as goal
use Rattle.bcv_upload.specs.State.{view_in}

pub returns-clause-are_open : goal.returns-clause-are_open
returns-clause-are_open g c =
    (uploaded c.args.task.now.publish.latest (view_in c.args.pages.now c.args.task.now.base) c.args.task.now c.args.cache.now c.work.new.cache c.args.txns.now c.requires.are_open c.room.ensures.cache c.work.ensures.cache).is_open

pub returns-clause-size : goal.returns-clause-size
returns-clause-size g c =
    (uploaded c.args.task.now.publish.latest (view_in c.args.pages.now c.args.task.now.base) c.args.task.now c.args.cache.now c.work.new.cache c.args.txns.now c.requires.are_open c.room.ensures.cache c.work.ensures.cache).size
