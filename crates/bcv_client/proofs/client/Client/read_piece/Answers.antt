use Rattle.bcv_client.proofs.RangeJoins.{not_page, page_added, page_short}
use Rattle.bcv_client.proofs.client.Client.read_piece.Goals as goal

pub read_page-requires : goal.read_page-requires
read_page-requires g c = record { client = c.requires.client }

pub returns-in-Ok-clause-client : goal.returns-in-Ok-clause-client
returns-in-Ok-clause-client g c = c.read_page.ensures.client

pub returns-in-Ok-clause-reads : goal.returns-in-Ok-clause-reads
returns-in-Ok-clause-reads g c = record {
  replied = c.read_page.result;
  page = c.read_page.ensures.reads;
  ends = page_added c.args.piece.now c.read_page.result c.in-Page.bytes c.items.result.now c.args.into.now.items c.add_piece.new.into.items c.in-Page.is c.items.ensures c.in-Ok.ensures;
}

pub returns-in-Page-clause-client : goal.returns-in-Page-clause-client
returns-in-Page-clause-client g c = c.read_page.ensures.client

pub returns-in-Page-clause-reads : goal.returns-in-Page-clause-reads
returns-in-Page-clause-reads g c = record {
  replied = c.read_page.result;
  page = c.read_page.ensures.reads;
  ends = page_short c.args.piece.now c.read_page.result c.in-Page.bytes c.args.into.now.items c.add_piece.new.into.items c.in-Page.is;
}

pub returns : goal.returns
returns g c = record {
  reached = c.read_page.ensures.reached;
  client = c.read_page.ensures.client;
  reads = record {
    replied = c.read_page.result;
    page = c.read_page.ensures.reads;
    ends = not_page c.args.piece.now c.read_page.result c.args.into.now.items c.args.into.now.items c.in_default.not-Page;
  };
}

pub returns-in-Ok-clause-reached : goal.returns-in-Ok-clause-reached
returns-in-Ok-clause-reached g c = c.read_page.ensures.reached

pub returns-in-Page-clause-reached : goal.returns-in-Page-clause-reached
returns-in-Page-clause-reached g c = c.read_page.ensures.reached
