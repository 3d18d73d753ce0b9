-- What a caller is told of the end of a run.
use Rattle.std.specs.Prelude.{ℕ, List, [], ◌∷◌, ◌++◌, codes, decimal, Option, Some, None}
use Rattle.setl_model_runs.specs.Variable.{name_of}
use Rattle.setl_model_runs.specs.Events.{StopKind, Om, Kind, Zero, Range, Wide, Deep, Form, Unfit, Nothing, End, Done, Stopped, Spent, Stuck}
use Rattle.setl_top_status.specs.declared.status.Status.{Status}
use Rattle.setl_top_status.specs.declared.status.Status.TheVariants as status

-- the status of an end; a run that is stuck has none
abbrev pub status_of : End → Option Status
status_of Done = Some status.Done
status_of (Stopped k line) = Some status.Stopped
status_of Spent = Some status.Spent
status_of Stuck = None

-- the words for a stop
abbrev pub stop_text : StopKind → List ℕ
stop_text Om = codes "om"
stop_text Kind = codes "kind"
stop_text Zero = codes "zero"
stop_text Range = codes "range"
stop_text Wide = codes "wide"
stop_text Deep = codes "deep"
stop_text Form = codes "form"
stop_text (Unfit x) = codes "value does not fit " ++ name_of x
stop_text Nothing = codes "nothing to go back to"

-- the line that the error output gains at an end, with its byte 10; empty where there is none
abbrev pub error_line : End → List ℕ
error_line Done = []
error_line (Stopped k line) = codes "line " ++ decimal line ++ codes ": " ++ stop_text k ++ 10 ∷ []
error_line Spent = codes "out of turns" ++ 10 ∷ []
error_line Stuck = []
