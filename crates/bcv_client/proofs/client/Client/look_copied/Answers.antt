use Rattle.bcv_client.proofs.AskReplies.{look_inside}
use Rattle.bcv_client.proofs.LooksCopied.{looks_copied}
use Rattle.bcv_client.proofs.client.Client.look_copied.Goals as goal

pub opened-requires : goal.opened-requires
opened-requires g c = record { form = c.requires.form }

pub look-requires : goal.look-requires
look-requires g c = record { form = c.requires.form }

pub returns-clause-machine : goal.returns-clause-machine
returns-clause-machine g c =
    looks_copied g.D.Disk.shown c.args.self.now c.args.txn c.args.page c.page_size_of-page_size.result c.look.result c.look_reply.result c.opened.result c.page_size_of-page_size.ensures c.opened.ensures c.look_reply.ensures
    c.look.ensures

pub returns-clause-inside : goal.returns-clause-inside
returns-clause-inside g c = look_inside c.page_size_of-page_size.result c.look.result c.look_reply.result c.look_reply.ensures
