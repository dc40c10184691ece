-- Commits as what they write.
use Rattle.bcv_base.specs.Image.{Writes}
use Rattle.bcv_model.specs.declared.ask.Commit.{Commit}

-- what a commit writes
abbrev pub writes_of : Commit → Writes
writes_of c = record { size = c.size; pages = c.pages }
