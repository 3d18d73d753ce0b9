-- What is seen of the outside at one moment.
use Rattle.std.specs.Prelude.{ℕ, List}
use Rattle.setl_top_status.specs.Seen.{Seen, SeenFiles}
use Rattle.setl_watch.specs.Watches.{Watch}

-- the watchers that a call is handed, and what is seen of its four objects
pub record Outside : Type 0 where
  pub watchers : List Watch
  pub files : SeenFiles
  pub input : Seen (List ℕ)
  pub output : Seen (List ℕ)
  pub error_output : Seen (List ℕ)

abbrev pub outside : List Watch → SeenFiles → (input output error_output : Seen (List ℕ)) → Outside
outside watchers files input output error_output =
    record { watchers = watchers; files = files; input = input; output = output; error_output = error_output }
