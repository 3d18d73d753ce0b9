-- Worked rows of events.
use Rattle.std.specs.Prelude.{false, List, [], ◌∷◌, codes, Some, None, pos}
use Rattle.setl_value.specs.Datum.{bool, int, set_of as set_data, tuple_of as tuple_data}
use Rattle.setl_model_runs.specs.Variable.{Global, Bound}
use Rattle.setl_operators_table.specs.declared.Operator.TheVariants.{Add, Equal, Below}
use Rattle.setl_modes.specs.Modes.{Integers}
use Rattle.setl_program.specs.declared.kinds.Collection.TheVariants.{OfSet}
use Rattle.setl_program.specs.declared.kinds.Quantifier.TheVariants.{Exists, Forall}
use Rattle.setl_program.specs.declared.kinds.Source.TheVariants.{Values}
use Rattle.setl_program.specs.declared.kinds.Taking.TheVariants.{TakeLeast, TakeFirst}
use Rattle.setl_program.specs.Program.{Member, Point, Undefined, Name, Former, Quantified, Call, Ok, no_iterator, more_iterators, no_condition, no_argument, rd_argument, wr_argument, rw_argument, no_selector, AssignParts, TakeFrom, Perform, If, For, Fail, Succeed, Return, no_stmt}
use Rattle.setl_model_runs.specs.Events.{Called, Returned, Stored, Printed, Kept, Back, Forgot}
use Rattle.setl_program.specs.Source.{its, f, s, t, x, y, z, number, quoted, exprs, two, set_of, tuple_of, enumeration, row_of, over, assign, put, combine, print, on_line, at, alone, lines_from, just, with_procedures, procedure, wr_parameter, rd_parameter, with_modes, rw_parameter}
use Rattle.setl_model.specs.Table.{EventRow, tells}

-- what each store, call, return, line, `ok`, `fail` and `succeed` tells, in their order
abbrev pub event_rows : List EventRow
event_rows =
    -- x := p(); print(x); if x = 1 then fail; end if;
    -- proc p(); if ok then return 1; else return 2; end if; end proc;
    -- tells: call 2 p; keep; return p; store 2 x 1; print 1; back; return p; store 2 x 2; print 2
    tells 2 (with_procedures (on_line 2 (assign x (Call 0 no_argument) ∷ print (Name x ∷ []) ∷ If (two Equal (Name x)
    (number 1)) (alone 2 Fail) no_stmt ∷ [])) ((procedure (codes "p") [] (alone 3 (If Ok
    (alone 3 (Return (number 1))) (alone 3 (Return (number 2)))))) ∷ [])) (
    Called 2 (codes "p")
    ∷ Kept
    ∷ Returned (codes "p")
    ∷ Stored 2 x (Some (int (pos 1)))
    ∷ Printed (codes "1\n")
    ∷ Back
    ∷ Returned (codes "p")
    ∷ Stored 2 x (Some (int (pos 2)))
    ∷ Printed (codes "2\n")
    ∷ [])
    -- the smaller value first; an empty source is not stored:
    -- s := {2, 1}; x from s;
    -- t := []; x fromb t;
    -- tells: store 2 s {1 2}; store 2 s {2}; store 2 x 1; store 3 t []; store 3 x *
    ∷ tells 9 (just (at 2 (assign s (enumeration (2 ∷ 1 ∷ []))) (at 2 (TakeFrom TakeLeast x
    (record { variable = s; selectors = no_selector })) (at 3 (assign t (tuple_of [])) (at 3 (TakeFrom TakeFirst x
    (record { variable = t; selectors = no_selector })) no_stmt))))) (
    Stored 2 s (Some (set_data (int (pos 1) ∷ int (pos 2) ∷ [])))
    ∷ Stored 2 s (Some (set_data (int (pos 2) ∷ [])))
    ∷ Stored 2 x (Some (int (pos 1)))
    ∷ Stored 3 t (Some (tuple_data []))
    ∷ Stored 3 x None
    ∷ [])
    -- y := p(x,
    -- 1 + 1); print(y);
    -- proc p(wr a, n);
    -- a := n; return [n]; end proc;
    -- tells: call 2 p; store 2 1:a *; store 2 1:n 2; store 5 1:a 2; return p; store 2 x 2; store 2 y [2]; print [2]
    ∷ tells 9 (with_procedures (lines_from 2 (assign y (Call 0 (wr_argument x (rd_argument (two Add (number 1)
    (number 1)) no_argument))) ∷ print (Name y ∷ []) ∷ []))
    ((procedure (codes "p") ((wr_parameter (codes "a"))
    ∷ (rd_parameter (codes "n")) ∷ []) (on_line 5 (assign (its (codes "a")) (Name (its
    (codes "n"))) ∷ Return (tuple_of (Name (its (codes "n")) ∷ [])) ∷ []))) ∷ [])) (
    Called 2 (codes "p")
    ∷ Stored 2 (its (codes "a")) None
    ∷ Stored 2 (its (codes "n")) (Some (int (pos 2)))
    ∷ Stored 5 (its (codes "a")) (Some (int (pos 2)))
    ∷ Returned (codes "p")
    ∷ Stored 2 x (Some (int (pos 2)))
    ∷ Stored 2 y (Some (tuple_data (Some (int (pos 2)) ∷ [])))
    ∷ Printed (codes "[2]\n")
    ∷ [])
    -- x is stored before y; at the end of a quantifier the names from left to right:
    -- f := {[1, 2]}; (for y = f(x)) end for;
    -- y := exists y = f(x) | y = 3;
    -- tells: store 2 f {[1 2]}; store 2 x 1; store 2 y 2; store 3 x 1; store 3 y 2; store 3 y *; store 3 x *; store 3
    --   y false
    ∷ tells 9 (just (at 2 (assign f (set_of (row_of (1 ∷ 2 ∷ []) ∷ []))) (at 2 (For (more_iterators (Point y x)
    (exprs (Name f ∷ [])) no_iterator) no_condition no_stmt) (at 3 (assign y (Quantified Exists (more_iterators (Point y x) (exprs (Name f ∷ [])) no_iterator) (two Equal (Name y) (number 3)))) no_stmt)))) (
    Stored 2 f (Some (set_data (tuple_data (Some (int (pos 1)) ∷ Some (int (pos 2)) ∷ []) ∷ [])))
    ∷ Stored 2 x (Some (int (pos 1)))
    ∷ Stored 2 y (Some (int (pos 2)))
    ∷ Stored 3 x (Some (int (pos 1)))
    ∷ Stored 3 y (Some (int (pos 2)))
    ∷ Stored 3 y None
    ∷ Stored 3 x None
    ∷ Stored 3 y (Some (bool false))
    ∷ [])
    -- a former's names are bound without an event:
    -- s := {x + y : x in {1, 2}, y in [x]}; print();
    -- tells: store 2 s {2 4}; print
    ∷ tells 9 (just (on_line 2 (assign s (Former OfSet (two Add (Name (Bound 1 (codes "x"))) (Name (Bound 1
    (codes "y")))) (more_iterators (Member Values (Bound 1 (codes "x"))) (exprs (enumeration (1 ∷ 2 ∷ []) ∷ []))
    (more_iterators (Member Values (Bound 1 (codes "y"))) (exprs (tuple_of (Name (Bound 1 (codes "x")) ∷ [])
    ∷ [])) no_iterator)) no_condition) ∷ print [] ∷ []))) (
    Stored 2 s (Some (set_data (int (pos 2) ∷ int (pos 4) ∷ [])))
    ∷ Printed (codes "\n")
    ∷ [])
    -- a put of `om` past the end is a store:
    -- t := [1]; t(5) := om; t(1) := 2;
    -- tells: store 2 t [1]; store 2 t [1]; store 2 t [2]
    ∷ tells 9 (just (on_line 2 (assign t (row_of (1 ∷ [])) ∷ put t (number 5) Undefined ∷ put t (number 1) (number 2)
    ∷ []))) (
    Stored 2 t (Some (tuple_data (Some (int (pos 1)) ∷ [])))
    ∷ Stored 2 t (Some (tuple_data (Some (int (pos 1)) ∷ [])))
    ∷ Stored 2 t (Some (tuple_data (Some (int (pos 2)) ∷ [])))
    ∷ [])
    -- the stores before one that does not fit:
    -- repr y: int; end repr;
    -- [x, y, z] := [1, 'a', 3];
    -- tells: store 3 x 1
    ∷ tells 9 ((with_modes (alone 3 (AssignParts (Some x ∷ Some y ∷ Some z ∷ []) (tuple_of (number 1 ∷ quoted
    (codes "a") ∷ number 3 ∷ [])))) [] ((y, Integers) ∷ []))) (
    Stored 3 x (Some (int (pos 1)))
    ∷ [])
    -- stops Om at the sum:
    -- var x; p(x);
    -- proc p(rw x); x +:= 1; end proc;
    -- tells: call 2 p; store 2 1:x *
    ∷ tells 9 (with_procedures (alone 2 (Perform (Call 0 (rw_argument (Global (codes "x")) no_argument))))
    ((procedure (codes "p") ((rw_parameter (codes "x")) ∷ []) (alone 3
    (combine Add (its (codes "x")) (number 1)))) ∷ [])) (
    Called 2 (codes "p")
    ∷ Stored 2 (its (codes "x")) None
    ∷ [])
    -- what was passed in is stored at the return also where it stayed as it was:
    -- x := 1; p(x);
    -- proc p(wr a); end proc;
    -- tells: store 2 x 1; call 2 p; store 2 1:a *; return p; store 2 x *
    ∷ tells 9 (with_procedures (on_line 2 (assign x (number 1) ∷ Perform (Call 0 (wr_argument x no_argument)) ∷ []))
    ((procedure (codes "p") ((wr_parameter (codes "a")) ∷ []) no_stmt)
    ∷ [])) (
    Stored 2 x (Some (int (pos 1)))
    ∷ Called 2 (codes "p")
    ∷ Stored 2 (its (codes "a")) None
    ∷ Returned (codes "p")
    ∷ Stored 2 x None
    ∷ [])
    -- if ok then x := 1; if ok then fail; end if; fail; end if;
    -- tells: keep; store 2 x 1; keep; back; back
    ∷ tells 9 (just (alone 2 (If Ok (on_line 2 (assign x (number 1) ∷ If Ok (alone 2 Fail) no_stmt ∷ Fail
    ∷ [])) no_stmt))) (
    Kept
    ∷ Stored 2 x (Some (int (pos 1)))
    ∷ Kept
    ∷ Back
    ∷ Back
    ∷ [])
    -- if ok then x := 1; if ok then succeed; end if; fail; end if;
    -- tells: keep; store 2 x 1; keep; succeed; back
    ∷ tells 9 (just (alone 2 (If Ok (on_line 2 (assign x (number 1) ∷ If Ok (alone 2 Succeed) no_stmt ∷ Fail
    ∷ [])) no_stmt))) (
    Kept
    ∷ Stored 2 x (Some (int (pos 1)))
    ∷ Kept
    ∷ Forgot
    ∷ Back
    ∷ [])
    -- x := forall y in [1, 2] | y < 2; [x, -, y] := [3];
    -- tells: store 2 y 1; store 2 y 2; store 2 x false; store 2 x 3; store 2 y *
    ∷ tells 9 (just (on_line 2 (assign x (Quantified Forall (over y (row_of (1 ∷ 2 ∷ []))) (two Below (Name y)
    (number 2))) ∷ AssignParts (Some x ∷ None ∷ Some y ∷ []) (row_of (3 ∷ [])) ∷ []))) (
    Stored 2 y (Some (int (pos 1)))
    ∷ Stored 2 y (Some (int (pos 2)))
    ∷ Stored 2 x (Some (bool false))
    ∷ Stored 2 x (Some (int (pos 3)))
    ∷ Stored 2 y None
    ∷ [])
    ∷ []
