use Rattle.bcv_worldlaws.proofs.JobNames.{job_names_are_mine}
use Rattle.bcv_worldlaws.proofs.WorldOn.{new_names_are_away, numbers_are_new}
use Rattle.bcv_worldlaws.proofs.Acting.{drawn_are_apart, stay_apart}
use Rattle.bcv_worldlaws.proofs.acts.places_stay_apart.Goals as goal

pub returns-clause-apart : goal.returns-clause-apart
returns-clause-apart c = stay_apart

pub returns-clause-drawn : goal.returns-clause-drawn
returns-clause-drawn c = drawn_are_apart

pub returns-clause-new : goal.returns-clause-new
returns-clause-new c = numbers_are_new

pub returns-clause-away : goal.returns-clause-away
returns-clause-away c = new_names_are_away

pub returns-clause-job : goal.returns-clause-job
returns-clause-job c = job_names_are_mine
