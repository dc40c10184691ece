use Rattle.bcv_clientstate.proofs.PutLaws.{create_is_first, last_is_last, none_is_none, put_is_edit}
use Rattle.bcv_clientstate.proofs.laws.puts_are_edits.Goals as goal

pub returns-clause-last : goal.returns-clause-last
returns-clause-last c = last_is_last

pub returns-clause-none : goal.returns-clause-none
returns-clause-none c = none_is_none

pub returns-clause-put : goal.returns-clause-put
returns-clause-put c = put_is_edit

pub returns-clause-create : goal.returns-clause-create
returns-clause-create c = create_is_first
