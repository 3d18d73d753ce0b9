-- Runs of code end with the dump that is meant.
use Rattle.setl_code.specs.CodeOf.{code_of}
use Rattle.setl_code_simulation.specs.Claims.{CodeMeansAlike, CodeEndsInTheSameState}
use Rattle.setl_code_marked.specs.Marked.{declared_in}
use Rattle.setl_code_marked_simulation.specs.Claims.{MarkedMeansWhatTheProgramMeans, MarkedEndsInTheSameState}
use Rattle.setl_code_layout.specs.Claims.{StatesLayOutAlike, MarkedStatesLayOutAlike, CodeEndsWithLayout, MarkedCodeEndsWithLayout}

pub code_ends : StatesLayOutAlike → CodeMeansAlike → CodeEndsInTheSameState → CodeEndsWithLayout
code_ends states means lasts p formed input turns based out end done = record {
  means = (means p formed input turns based out end).1 done;
  same = λ meant. states p.modes (code_of p) done.last meant.last (lasts p formed input turns based out out end end meant done);
}

pub marked_code_ends : MarkedStatesLayOutAlike → MarkedMeansWhatTheProgramMeans → MarkedEndsInTheSameState → MarkedCodeEndsWithLayout
marked_code_ends states means lasts p formed m marking input turns based out end done =
    let declared = declared_in p.modes in
    record {
      means = (means p formed declared m marking input turns based out end).1 done;
      same = λ meant. states p.modes (code_of p) done.last meant.last (lasts p formed declared m marking input turns based out out end end meant done);
    }
