-- Worked rows of updates of places.
use Rattle.std.specs.Prelude.{List, [], ◌∷◌, ◌++◌, codes, Some, None}
use Rattle.setl_model_runs.specs.Variable.{Global}
use Rattle.setl_operators_table.specs.declared.Operator.TheVariants.{With, Less, Lessf, Npow, Add, Subtract, Max, Min, Multiply, Divide, Modulo, Power}
use Rattle.setl_program.specs.declared.kinds.Taking.TheVariants.{TakeLeast, TakeFirst, TakeLast}
use Rattle.setl_program.specs.Program.{Undefined, Name, Call, no_argument, rd_argument, no_selector, round_selector, brace_selector, Assign, Update, AssignParts, TakeFrom, Return, no_stmt}
use Rattle.setl_model_runs.specs.Events.{Om, Kind, Stopped, Spent, Range as OutOfRange}
use Rattle.setl_program.specs.Source.{its, f, n, s, t, x, y, yes, number, quoted, minus, set_of, tuple_of, enumeration, row_of, assign, put, combine, combine_round, combine_brace, print, on_line, at, alone, lines_from, just, with_procedures, procedure, rd_parameter}
use Rattle.setl_model.specs.Table.{Row, does, ends, all_end}

-- the right side comes first, then the selectors from left to right, then the present value of the variable
abbrev pub update_rows : List Row
update_rows =
    -- x := 5; x -:= 2; x max:= 9; x **:= 2; x div:= 2; x mod:= 7; x *:= 3; x min:= 4; x +:= 1; print(x);
    -- y := {1, 2}; y less:= 1; y with:= 3; print(y);
    -- f := {[1, 2], [2, 3]}; f lessf:= 1; print(f); n := 1; n npow:= {1, 2}; print(n); t := 'ab'; t *:= 3; print(t);
    does 5 (just (at 2 (assign x (number 5)) (at 2 (combine Subtract x (number 2)) (at 2 (combine Max x (number 9))
    (at 2 (combine Power x (number 2)) (at 2 (combine Divide x (number 2)) (at 2 (combine Modulo x (number 7))
    (at 2 (combine Multiply x (number 3)) (at 2 (combine Min x (number 4)) (at 2 (combine Add x (number 1)) (at 2
    (print (Name x ∷ [])) (at 3 (assign y (enumeration (1 ∷ 2 ∷ []))) (at 3 (combine Less y (number 1)) (at 3
    (combine With y (number 3)) (at 3 (print (Name y ∷ [])) (at 4 (assign f (set_of (row_of (1 ∷ 2 ∷ []) ∷ row_of
    (2 ∷ 3 ∷ []) ∷ []))) (at 4 (combine Lessf f (number 1)) (at 4 (print (Name f ∷ [])) (at 4 (assign n
    (number 1)) (at 4 (combine Npow n (enumeration (1 ∷ 2 ∷ []))) (at 4 (print (Name n ∷ [])) (at 4 (assign t
    (quoted (codes "ab"))) (at 4 (combine Multiply t (number 3)) (at 4 (print (Name t
    ∷ [])) no_stmt)))))))))))))))))))))))) (codes "5\n{2 3}\n{[2 3]}\n{{1} {2}}\nababab\n")
    -- t := [1, 2]; t(2) +:= 5; print(t);
    -- f := {[1, {}]}; f(1) with:= 3; print(f); f{1} with:= 4; print(f); f{7} with:= 1; print(f);
    ∷ does 0 (just (at 2 (assign t (row_of (1 ∷ 2 ∷ []))) (at 2 (combine_round Add t (number 2) (number 5)) (at 2 (print
    (Name t ∷ [])) (at 3 (assign f (set_of (tuple_of (number 1 ∷ set_of [] ∷ []) ∷ []))) (at 3
    (combine_round With f (number 1) (number 3)) (at 3 (print (Name f ∷ [])) (at 3 (combine_brace With f
    (number 1) (number 4)) (at 3 (print (Name f ∷ [])) (at 3 (combine_brace With f (number 7) (number 1)) (at 3
    (print (Name f ∷ [])) no_stmt))))))))))) (codes "[1 7]\n{[1 {3}]}\n{[1 4] [1 {3}]}\n{[1 4] [1 {3}] [7 1]}\n")
    -- var x; x := 1; x +:= f(); print(x);
    -- proc f(); x := 10; return 5; end proc;
    ∷ does 1 (with_procedures (on_line 2 (assign (Global (codes "x")) (number 1) ∷ combine Add (Global (codes "x"))
    (Call 0 no_argument) ∷ print (Name (Global (codes "x")) ∷ []) ∷ []))
    ((procedure (codes "f") [] (on_line 3 (assign (Global (codes "x")) (number 10)
    ∷ Return (number 5) ∷ []))) ∷ [])) (codes "15\n")
    -- t := [0, 0]; t(p(1)) := p(2); print(t);
    -- proc p(a); print(a); return a; end proc;
    ∷ does 2 (with_procedures (on_line 2 (assign t (row_of (0 ∷ 0 ∷ [])) ∷ put t (Call 0 (rd_argument
    (number 1) no_argument)) (Call 0 (rd_argument (number 2) no_argument)) ∷ print (Name t ∷ []) ∷ []))
    ((procedure (codes "p") ((rd_parameter (codes "a")) ∷ []) (on_line 3
    (print (Name (its (codes "a")) ∷ []) ∷ Return (Name (its (codes "a"))) ∷ []))) ∷ [])) (codes "2\n1\n[2 0]\n")
    -- t := [[0]]; t(p(1))(p(2)) +:= p(3);
    -- proc p(a); print(a); return a; end proc;
    ∷ ends (Stopped Om 2) 3 (with_procedures (on_line 2 (assign t (tuple_of (row_of (0 ∷ []) ∷ [])) ∷ Update Add
    (record {
      variable = t;
      selectors = (round_selector (Call 0 (rd_argument (number 1) no_argument))
          (round_selector (Call 0 (rd_argument (number 2) no_argument)) no_selector));
    }) (Call 0 (rd_argument
    (number 3) no_argument)) ∷ []))
    ((procedure (codes "p") ((rd_parameter (codes "a")) ∷ []) (on_line 3
    (print (Name (its (codes "a")) ∷ []) ∷ Return (Name (its (codes "a"))) ∷ []))) ∷ [])) (codes "3\n1\n2\n")
    ∷ []

-- parts of parts
abbrev pub nested_rows : List Row
nested_rows =
    -- f := {[1, {[2, 3]}]}; f(1)(2) := 7; print(f);
    -- t := [[1], [2]]; t(2)(3) := 5; print(t);
    -- f := {[1, [1, 2]]}; f{1}(1) := 5; print(f); f{1}{1} := {6, 7}; print(f);
    does 1 (just (at 2 (assign f (set_of (tuple_of (number 1 ∷ set_of (row_of (2 ∷ 3 ∷ []) ∷ []) ∷ []) ∷ []))) (at 2
    (Assign (record {
      variable = f;
      selectors = (round_selector (number 1) (round_selector
          (number 2) no_selector));
    }) (number 7)) (at 2 (print (Name f ∷ [])) (at 3 (assign t (tuple_of (row_of (1 ∷ [])
    ∷ row_of (2 ∷ []) ∷ []))) (at 3 (Assign (record {
      variable = t;
      selectors = (round_selector (number 2)
          (round_selector (number 3) no_selector));
    }) (number 5)) (at 3 (print (Name t ∷ [])) (at 4 (assign f (set_of
    (tuple_of (number 1 ∷ row_of (1 ∷ 2 ∷ []) ∷ []) ∷ []))) (at 4 (Assign (record {
      variable = f;
      selectors =
          (brace_selector (number 1) (round_selector (number 1) no_selector));
    }) (number 5)) (at 4 (print (Name f ∷ []))
    (at 4 (Assign (record {
      variable = f;
      selectors = (brace_selector (number 1) (brace_selector
          (number 1) no_selector));
    }) (enumeration (6 ∷ 7 ∷ []))) (at 4 (print (Name f ∷ [])) no_stmt))))))))))))
    (codes "{[1 {[2 7]}]}\n[[1] [2 * 5]]\n{[1 [1 5]]}\n{[1 [1 6]] [1 [1 7]]}\n")
    -- t := [2, 'ab'];
    -- t(2) *:= 3; print(t);
    ∷ does 3 (just (at 2 (assign t (tuple_of (number 2 ∷ quoted (codes "ab") ∷ []))) (at 3 (combine_round Multiply t
    (number 2) (number 3)) (at 3 (print (Name t ∷ [])) no_stmt)))) (codes "[2 'ababab']\n")
    -- t := [2, 'ab'];
    -- t(2) *:= 3; print(t);
    -- with 2 turns
    ∷ ends Spent 2 (just (at 2 (assign t (tuple_of (number 2 ∷ quoted (codes "ab") ∷ []))) (at 3
    (combine_round Multiply t (number 2) (number 3)) (at 3 (print (Name t ∷ [])) no_stmt)))) []
    -- om 3:
    -- x := om;
    -- x +:= 1;
    -- t := [1];
    -- t(5) +:= 1;
    -- t := [1];
    -- t(3)(1) := 2;
    -- f := {};
    -- f(9)(1) := 2;
    -- t := [1];
    -- t(1) +:= om;
    ∷ all_end (Stopped Om 3) (
    just (lines_from 2 (assign x Undefined ∷ combine Add x (number 1) ∷ []))
    ∷ just (lines_from 2 (assign t (row_of (1 ∷ [])) ∷ combine_round Add t (number 5) (number 1) ∷ []))
    ∷ just (lines_from 2 (assign t (row_of (1 ∷ [])) ∷ Assign (record {
      variable = t;
      selectors = (round_selector
          (number 3) (round_selector (number 1) no_selector));
    }) (number 2) ∷ []))
    ∷ just (lines_from 2 (assign f (set_of []) ∷ Assign (record {
      variable = f;
      selectors = (round_selector
          (number 9) (round_selector (number 1) no_selector));
    }) (number 2) ∷ []))
    ∷ just (lines_from 2 (assign t (row_of (1 ∷ [])) ∷ combine_round Add t (number 1) Undefined ∷ []))
    ∷ [])
    -- kind 3:
    -- t := [1];
    -- t(1) +:= 'a';
    -- t := [1];
    -- t(1)(1) := 2;
    -- t := ['ab'];
    -- t(1)(1) +:= 'c';
    -- f := {[1, 2]};
    -- f{1}(1) := 2;
    ++ all_end (Stopped Kind 3) (
    just (lines_from 2 (assign t (row_of (1 ∷ [])) ∷ combine_round Add t (number 1) (quoted (codes "a")) ∷ []))
    ∷ just (lines_from 2 (assign t (row_of (1 ∷ [])) ∷ Assign (record {
      variable = t;
      selectors = (round_selector
          (number 1) (round_selector (number 1) no_selector));
    }) (number 2) ∷ []))
    ∷ just (lines_from 2 (assign t (tuple_of (quoted (codes "ab") ∷ [])) ∷ Update Add
    (record { variable = t; selectors = (round_selector (number 1) (round_selector (number 1) no_selector)) })
    (quoted (codes "c")) ∷ []))
    ∷ just (lines_from 2 (assign f (set_of (row_of (1 ∷ 2 ∷ []) ∷ [])) ∷ Assign
    (record { variable = f; selectors = (brace_selector (number 1) (round_selector (number 1) no_selector)) })
    (number 2) ∷ []))
    ∷ [])
    -- range 3:
    -- t := [1];
    -- t(0) +:= 'a';
    -- t := [[1]];
    -- t(1)(0) := 1;
    -- t := [1];
    -- t(0)(om) := 1;
    -- x := 2;
    -- x **:= -1;
    ++ all_end (Stopped OutOfRange 3) (
    just (lines_from 2 (assign t (row_of (1 ∷ [])) ∷ combine_round Add t (number 0) (quoted (codes "a")) ∷ []))
    ∷ just (lines_from 2 (assign t (tuple_of (row_of (1 ∷ []) ∷ [])) ∷ Assign (record {
      variable = t;
      selectors =
          (round_selector (number 1) (round_selector (number 0) no_selector));
    }) (number 1) ∷ []))
    ∷ just (lines_from 2 (assign t (row_of (1 ∷ [])) ∷ Assign (record {
      variable = t;
      selectors = (round_selector
          (number 0) (round_selector Undefined no_selector));
    }) (number 1) ∷ []))
    ∷ just (lines_from 2 (assign x (number 2) ∷ combine Power x (minus 1) ∷ []))
    ∷ [])

-- the smaller value is stored first, then what was taken; an empty source stores `om` in the variable alone
abbrev pub taking_rows : List Row
taking_rows =
    -- s := {2, 1, 3}; x from s; print(x, s);
    -- t := [1, om, 2]; x frome t; print(x, t); t := [om, 2]; x fromb t; print(x, t); x fromb t; print(x, t);
    does 0 (just (at 2 (assign s (enumeration (2 ∷ 1 ∷ 3 ∷ []))) (at 2 (TakeFrom TakeLeast x
    (record { variable = s; selectors = no_selector })) (at 2 (print (Name x ∷ Name s ∷ [])) (at 3 (assign t
    (tuple_of (number 1 ∷ Undefined ∷ number 2 ∷ []))) (at 3 (TakeFrom TakeLast x
    (record { variable = t; selectors = no_selector })) (at 3 (print (Name x ∷ Name t ∷ [])) (at 3 (assign t
    (tuple_of (Undefined ∷ number 2 ∷ []))) (at 3 (TakeFrom TakeFirst x
    (record { variable = t; selectors = no_selector })) (at 3 (print (Name x ∷ Name t ∷ [])) (at 3
    (TakeFrom TakeFirst x (record { variable = t; selectors = no_selector })) (at 3 (print (Name x ∷ Name t
    ∷ [])) no_stmt)))))))))))) (codes "1 {2 3}\n2 [1]\n* [2]\n2 []\n")
    -- x := 9; s := {}; x from s; print(x, s);
    -- x := 9; s := []; x fromb s; print(x, s); x := 9; x frome s; print(x, s);
    ∷ does 0 (just (at 2 (assign x (number 9)) (at 2 (assign s (set_of [])) (at 2 (TakeFrom TakeLeast x
    (record { variable = s; selectors = no_selector })) (at 2 (print (Name x ∷ Name s ∷ [])) (at 3 (assign x
    (number 9)) (at 3 (assign s (tuple_of [])) (at 3 (TakeFrom TakeFirst x
    (record { variable = s; selectors = no_selector })) (at 3 (print (Name x ∷ Name s ∷ [])) (at 3 (assign x
    (number 9)) (at 3 (TakeFrom TakeLast x (record { variable = s; selectors = no_selector })) (at 3 (print
    (Name x ∷ Name s ∷ [])) no_stmt)))))))))))) (codes "* {}\n* []\n* []\n")
    -- s := {2, 1}; s from s; print(s);
    -- s := {}; s from s; print(s); s := [1, 2]; s frome s; print(s);
    ∷ does 0 (just (at 2 (assign s (enumeration (2 ∷ 1 ∷ []))) (at 2 (TakeFrom TakeLeast s
    (record { variable = s; selectors = no_selector })) (at 2 (print (Name s ∷ [])) (at 3 (assign s (set_of []))
    (at 3 (TakeFrom TakeLeast s (record { variable = s; selectors = no_selector })) (at 3 (print (Name s ∷ []))
    (at 3 (assign s (row_of (1 ∷ 2 ∷ []))) (at 3 (TakeFrom TakeLast s
    (record { variable = s; selectors = no_selector })) (at 3 (print (Name s ∷ [])) no_stmt))))))))))
    (codes "1\n*\n2\n")
    -- f := {[1, {4, 5}]}; x from f(1); print(x, f);
    -- x from f{1}; print(x, f); x from f{1}; print(x, f);
    -- t := [[1, 2]]; x fromb t(1); x frome t(1); print(x, t); x fromb t(1); print(x, t);
    ∷ does 0 (just (at 2 (assign f (set_of (tuple_of (number 1 ∷ enumeration (4 ∷ 5 ∷ []) ∷ []) ∷ []))) (at 2
    (TakeFrom TakeLeast x (record { variable = f; selectors = (round_selector (number 1) no_selector) })) (at 2
    (print (Name x ∷ Name f ∷ [])) (at 3 (TakeFrom TakeLeast x (record {
      variable = f;
      selectors = (brace_selector
          (number 1) no_selector);
    })) (at 3 (print (Name x ∷ Name f ∷ [])) (at 3 (TakeFrom TakeLeast x
    (record { variable = f; selectors = (brace_selector (number 1) no_selector) })) (at 3 (print (Name x ∷ Name f
    ∷ [])) (at 4 (assign t (tuple_of (row_of (1 ∷ 2 ∷ []) ∷ []))) (at 4 (TakeFrom TakeFirst x
    (record { variable = t; selectors = (round_selector (number 1) no_selector) })) (at 4 (TakeFrom TakeLast x
    (record { variable = t; selectors = (round_selector (number 1) no_selector) })) (at 4 (print (Name x ∷ Name t
    ∷ [])) (at 4 (TakeFrom TakeFirst x (record {
      variable = t;
      selectors = (round_selector
          (number 1) no_selector);
    })) (at 4 (print (Name x ∷ Name t ∷ [])) no_stmt))))))))))))))
    (codes "4 {[1 {5}]}\n{5} {}\n* {}\n2 [[]]\n* [[]]\n")
    -- kind 3:
    -- s := [1];
    -- x from s;
    -- s := {1};
    -- x fromb s;
    -- s := 'ab';
    -- x frome s;
    -- s := 5;
    -- x from s;
    -- s := 'ab';
    -- x fromb s;
    ∷ all_end (Stopped Kind 3) (
    just (lines_from 2 (assign s (row_of (1 ∷ [])) ∷ TakeFrom TakeLeast x
    (record { variable = s; selectors = no_selector }) ∷ []))
    ∷ just (lines_from 2 (assign s (enumeration (1 ∷ [])) ∷ TakeFrom TakeFirst x
    (record { variable = s; selectors = no_selector }) ∷ []))
    ∷ just (lines_from 2 (assign s (quoted (codes "ab")) ∷ TakeFrom TakeLast x
    (record { variable = s; selectors = no_selector }) ∷ []))
    ∷ just (lines_from 2 (assign s (number 5) ∷ TakeFrom TakeLeast x
    (record { variable = s; selectors = no_selector }) ∷ []))
    ∷ just (lines_from 2 (assign s (quoted (codes "ab")) ∷ TakeFrom TakeFirst x
    (record { variable = s; selectors = no_selector }) ∷ []))
    ∷ [])
    -- om 3:
    -- s := om;
    -- x from s;
    -- s := {};
    -- x from s(1);
    -- s := om;
    -- x fromb s;
    -- s := [1];
    -- x frome s(2);
    ++ all_end (Stopped Om 3) (
    just (lines_from 2 (assign s Undefined ∷ TakeFrom TakeLeast x
    (record { variable = s; selectors = no_selector }) ∷ []))
    ∷ just (lines_from 2 (assign s (set_of []) ∷ TakeFrom TakeLeast x (record {
      variable = s;
      selectors =
          (round_selector (number 1) no_selector);
    }) ∷ []))
    ∷ just (lines_from 2 (assign s Undefined ∷ TakeFrom TakeFirst x
    (record { variable = s; selectors = no_selector }) ∷ []))
    ∷ just (lines_from 2 (assign s (row_of (1 ∷ [])) ∷ TakeFrom TakeLast x (record {
      variable = s;
      selectors =
          (round_selector (number 2) no_selector);
    }) ∷ []))
    ∷ [])

-- a tuple is taken apart from left to right; a missing component is `om`, a further one is ignored
abbrev pub parting_rows : List Row
parting_rows =
    -- [x, -, y] := [1, 2, 3]; print(x, y);
    -- [x, y] := [1]; print(x, y); [x] := [4, 5]; print(x); x := 1; y := 2; [x, y] := [y, x]; print(x, y); [x, y] :=
    --   []; print(x, y); [-, x] := [om, 7]; print(x);
    does 0 (just (at 2 (AssignParts (Some x ∷ None ∷ Some y ∷ []) (row_of (1 ∷ 2 ∷ 3 ∷ []))) (at 2 (print (Name x
    ∷ Name y ∷ [])) (at 3 (AssignParts (Some x ∷ Some y ∷ []) (row_of (1 ∷ []))) (at 3 (print (Name x ∷ Name y
    ∷ [])) (at 3 (AssignParts (Some x ∷ []) (row_of (4 ∷ 5 ∷ []))) (at 3 (print (Name x ∷ [])) (at 3 (assign x
    (number 1)) (at 3 (assign y (number 2)) (at 3 (AssignParts (Some x ∷ Some y ∷ []) (tuple_of (Name y ∷ Name x
    ∷ []))) (at 3 (print (Name x ∷ Name y ∷ [])) (at 3 (AssignParts (Some x ∷ Some y ∷ []) (tuple_of [])) (at 3
    (print (Name x ∷ Name y ∷ [])) (at 3 (AssignParts (None ∷ Some x ∷ []) (tuple_of (Undefined ∷ number 7 ∷ [])))
    (at 3 (print (Name x ∷ [])) no_stmt))))))))))))))) (codes "1 3\n1 *\n4\n2 1\n* *\n7\n")
    -- kind 2:
    -- [x] := 5;
    -- [x] := 'ab';
    -- [x] := {1};
    -- [-] := true;
    ∷ all_end (Stopped Kind 2) (
    just (alone 2 (AssignParts (Some x ∷ []) (number 5)))
    ∷ just (alone 2 (AssignParts (Some x ∷ []) (quoted (codes "ab"))))
    ∷ just (alone 2 (AssignParts (Some x ∷ []) (enumeration (1 ∷ []))))
    ∷ just (alone 2 (AssignParts (None ∷ []) yes))
    ∷ [])
    -- om 2:
    -- [x] := om;
    -- [-, -] := om;
    ++ all_end (Stopped Om 2) (
    just (alone 2 (AssignParts (Some x ∷ []) Undefined))
    ∷ just (alone 2 (AssignParts (None ∷ None ∷ []) Undefined))
    ∷ [])
