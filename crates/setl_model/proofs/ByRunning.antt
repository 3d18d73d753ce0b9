-- A table of worked programs holds where the runs of its programs, up to a bound, end as it says.
use Rattle.std.proofs.Common.{◌≡◌, ℕ, true, List, [], ◌∷◌, Option, Some, None, map, refl, ap}
use Rattle.setl_model_runs.specs.Events.{Event, End}
use Rattle.setl_model_runs.specs.Run.{State, Next, Goes, Ends, run}
use Rattle.setl_model.specs.Core.{Core}
use Rattle.setl_model.specs.Step.{language, test_of}
use Rattle.setl_model.specs.Means.{first}
use Rattle.setl_model.specs.Table.{Row, Holds, AllHold, EventRow, Tells, AllTell, DumpRow, Dumps, AllDump}
use Rattle.setl_model.specs.Dump.{layout}

-- what was written at an end
abbrev ending : Next Core → Option (List ℕ × End)
ending (Goes s) = None
ending (Ends e s) = Some (s.out, e)

-- what was told at an end
abbrev telling : Next Core → Option (List Event)
telling (Goes s) = None
telling (Ends e s) = Some s.events

abbrev pub found : Row → Option (List ℕ × End)
found r = ending (run (language r.program) (test_of r.program.modes r.based) 20000 (first r.program r.input r.turns))

abbrev pub stated : Row → Option (List ℕ × End)
stated r = Some (r.out, r.end)

from_ending : (n : Next Core) (o : List ℕ) (e : End) → ending n ≡ Some (o, e) → (l : State Core) × (n ≡ Ends e l) × (l.out ≡ o)
from_ending (Goes s) o e h = cc
from_ending (Ends f s) o e h =
    let both : ◌≡◌ {A = List ℕ × End} (s.out, f) (o, e) = cc in
    (s, ap (λ p. Ends p.1 s) both, ap (λ p. p.0) both)

row_holds : (r : Row) → found r ≡ stated r → Holds r
row_holds r h =
    let at_end = from_ending (run (language r.program) (test_of r.program.modes r.based) 20000 (first r.program r.input r.turns)) r.out r.end h in
    record { steps = 20000; last = at_end.0; ends = at_end.1; written = at_end.2 }

first_alike : {A : Type 0} (a b : A) (us vs : List A) → a ∷ us ≡ b ∷ vs → a ≡ b
first_alike a b us vs h = cc

others_alike : {A : Type 0} (a b : A) (us vs : List A) → a ∷ us ≡ b ∷ vs → us ≡ vs
others_alike a b us vs h = cc

pub table_holds : (rs : List Row) → map found rs ≡ map stated rs → AllHold rs
table_holds [] h = tt
table_holds (r ∷ rs) h =
    (row_holds r (first_alike (found r) (stated r) (map found rs) (map stated rs) h), table_holds rs (others_alike (found r) (stated r) (map found rs) (map stated rs) h))

abbrev pub told : EventRow → Option (List Event)
told r = telling (run (language r.program) (test_of r.program.modes true) 20000 (first r.program [] r.turns))

abbrev pub foretold : EventRow → Option (List Event)
foretold r = Some r.events

from_telling : (n : Next Core) (events : List Event) → telling n ≡ Some events → (e : End) × (l : State Core) × (n ≡ Ends e l) × (l.events ≡ events)
from_telling (Goes s) events h = cc
from_telling (Ends e s) events h = (e, s, refl, cc)

row_tells : (r : EventRow) → told r ≡ foretold r → Tells r
row_tells r h =
    let at_end = from_telling (run (language r.program) (test_of r.program.modes true) 20000 (first r.program [] r.turns)) r.events h in
    record { steps = 20000; last = at_end.1; end = at_end.0; ends = at_end.2; told = at_end.3 }

pub table_tells : (rs : List EventRow) → map told rs ≡ map foretold rs → AllTell rs
table_tells [] h = tt
table_tells (r ∷ rs) h =
    (row_tells r (first_alike (told r) (foretold r) (map told rs) (map foretold rs) h), table_tells rs (others_alike (told r) (foretold r) (map told rs) (map foretold rs) h))

-- the dump at an end
abbrev dumping : DumpRow → Next Core → Option (List ℕ)
dumping r (Goes s) = None
dumping r (Ends e s) = Some (layout r.names r.program.modes s)

abbrev pub dumped : DumpRow → Option (List ℕ)
dumped r = dumping r (run (language r.program) (test_of r.program.modes true) 20000 (first r.program [] r.turns))

abbrev pub expected : DumpRow → Option (List ℕ)
expected r = Some r.text

some_alike : {A : Type 0} (a b : A) → Some a ≡ Some b → a ≡ b
some_alike a b h = cc

from_dumping : (r : DumpRow) (n : Next Core) → dumping r n ≡ Some r.text → (e : End) × (l : State Core) × (n ≡ Ends e l) × (layout r.names r.program.modes l ≡ r.text)
from_dumping r (Goes s) h = cc
from_dumping r (Ends e s) h = (e, s, refl, some_alike (layout r.names r.program.modes s) r.text h)

row_dumps : (r : DumpRow) → dumped r ≡ expected r → Dumps r
row_dumps r h =
    let at_end = from_dumping r (run (language r.program) (test_of r.program.modes true) 20000 (first r.program [] r.turns)) h in
    record { steps = 20000; last = at_end.1; end = at_end.0; ends = at_end.2; dump = at_end.3 }

pub table_dumps : (rs : List DumpRow) → map dumped rs ≡ map expected rs → AllDump rs
table_dumps [] h = tt
table_dumps (r ∷ rs) h =
    (row_dumps r (first_alike (dumped r) (expected r) (map dumped rs) (map expected rs) h), table_dumps rs (others_alike (dumped r) (expected r) (map dumped rs) (map expected rs) h))
