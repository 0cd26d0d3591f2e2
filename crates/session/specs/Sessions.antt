-- A session, as clauses see it.
--   Session   the shelf and the log, tied
--   seen      what is seen of them
use Rattle.runs.specs.Views.{View}
use Rattle.session.specs.declared.tied.Tied.{Tied}
use Rattle.session.specs.Logs.{view_of}

pub record Session (S : Type 0) : Type 0 where
  pub tied : Tied S

abbrev pub seen : {S : Type 0} → Session S → View
seen x = view_of x.tied.log
