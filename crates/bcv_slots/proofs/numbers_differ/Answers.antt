use Rattle.bcv_slots.proofs.NumbersDiffer.{differ_with, differ_without, free_is_none, others_have_none}
use Rattle.bcv_slots.proofs.numbers_differ.Goals as goal

pub returns-clause-without : goal.returns-clause-without
returns-clause-without c = differ_without

pub returns-clause-with : goal.returns-clause-with
returns-clause-with c = differ_with

pub returns-clause-free : goal.returns-clause-free
returns-clause-free c = free_is_none

pub returns-clause-none : goal.returns-clause-none
returns-clause-none c = others_have_none
