-- Worked rows of procedures.
use Rattle.std.specs.Prelude.{List, [], ◌∷◌, codes}
use Rattle.setl_model_runs.specs.Variable.{Global, Own, Bound}
use Rattle.setl_operators_table.specs.declared.Operator.TheVariants.{Add, Subtract, Multiply, Equal, Above}
use Rattle.setl_program.specs.declared.kinds.Collection.TheVariants.{OfTuple}
use Rattle.setl_program.specs.Program.{Undefined, Name, Former, Call, no_condition, no_argument, rd_argument, wr_argument, rw_argument, Perform, If, For, While, Quit, Stop, Return, no_stmt}
use Rattle.setl_model_runs.specs.Events.{Om, Kind, Stopped, Spent}
use Rattle.setl_program.specs.Source.{its, s, x, y, yes, number, quoted, two, tuple_of, enumeration, row_of, over, assign, combine, print, on_line, alone, lines_from, with_procedures, procedure, rd_parameter, wr_parameter, rw_parameter}
use Rattle.setl_model.specs.Table.{Row, does, ends}

-- a call takes a turn; arguments go from left to right; a procedure without a result gives `om`
abbrev pub call_rows : List Row
call_rows =
    -- print(p(5));
    -- proc p(n); if n = 0 then return 1; end if; return n * p(n - 1); end proc;
    does 6 (with_procedures (alone 2 (print (Call 0 (rd_argument (number 5) no_argument) ∷ [])))
    ((procedure (codes "p") ((rd_parameter (codes "n")) ∷ []) (on_line 3 (If
    (two Equal (Name (its (codes "n"))) (number 0)) (alone 3 (Return (number 1))) no_stmt ∷ Return (two Multiply
    (Name (its (codes "n"))) (Call 0 (rd_argument (two Subtract (Name (its (codes "n")))
    (number 1)) no_argument))) ∷ []))) ∷ [])) (codes "120\n")
    -- print(p(5));
    -- proc p(n); if n = 0 then return 1; end if; return n * p(n - 1); end proc;
    -- with 5 turns
    ∷ ends Spent 5 (with_procedures (alone 2 (print (Call 0 (rd_argument (number 5) no_argument) ∷ [])))
    ((procedure (codes "p") ((rd_parameter (codes "n")) ∷ []) (on_line 3 (If
    (two Equal (Name (its (codes "n"))) (number 0)) (alone 3 (Return (number 1))) no_stmt ∷ Return (two Multiply
    (Name (its (codes "n"))) (Call 0 (rd_argument (two Subtract (Name (its (codes "n")))
    (number 1)) no_argument))) ∷ []))) ∷ [])) []
    -- print(p(q(1), q(2))); p(0, 0);
    -- proc p(a, b); return [b, a]; end proc;
    -- proc q(a); print(a); return a + 1; end proc;
    ∷ does 4 (with_procedures (on_line 2 (print (Call 0 (rd_argument (Call 1 (rd_argument (number 1) no_argument))
    (rd_argument (Call 1 (rd_argument (number 2) no_argument)) no_argument)) ∷ []) ∷ Perform (Call 0 (rd_argument
    (number 0) (rd_argument (number 0) no_argument))) ∷ []))
    ((procedure (codes "p") ((rd_parameter (codes "a"))
    ∷ (rd_parameter (codes "b")) ∷ []) (alone 3 (Return (tuple_of (Name (its (codes "b"))
    ∷ Name (its (codes "a")) ∷ [])))))
    ∷ (procedure (codes "q") ((rd_parameter (codes "a")) ∷ []) (on_line 4
    (print (Name (Own 2 (codes "a")) ∷ []) ∷ Return (two Add (Name (Own 2 (codes "a"))) (number 1)) ∷ []))) ∷ []))
    (codes "1\n2\n[3 2]\n")
    -- print(p()); print(q());
    -- proc p(); end proc;
    -- proc q(); return; end proc;
    ∷ does 2 (with_procedures (on_line 2 (print (Call 0 no_argument ∷ []) ∷ print (Call 1 no_argument ∷ []) ∷ []))
    ((procedure (codes "p") [] no_stmt)
    ∷ (procedure (codes "q") [] (alone 4 (Return Undefined))) ∷ [])) (codes "*\n*\n")
    -- p(om); p({1, 2});
    -- proc p(a); print(a); end proc;
    ∷ does 2 (with_procedures (on_line 2 (Perform (Call 0 (rd_argument Undefined no_argument)) ∷ Perform (Call 0
    (rd_argument (enumeration (1 ∷ 2 ∷ [])) no_argument)) ∷ []))
    ((procedure (codes "p") ((rd_parameter (codes "a")) ∷ []) (alone 3 (print
    (Name (its (codes "a")) ∷ [])))) ∷ [])) (codes "*\n{1 2}\n")
    -- print(p([1, 2, 3], 2)); print(p([1], 2)); print(p([], 2));
    -- proc p(t, n); (for x in t) (while true) if x = n then return x; end if; quit; end while; end for; end proc;
    -- with 8 turns
    ∷ ends Spent 8 (with_procedures (on_line 2 (print (Call 0 (rd_argument (row_of (1 ∷ 2 ∷ 3 ∷ [])) (rd_argument
    (number 2) no_argument)) ∷ []) ∷ print (Call 0 (rd_argument (row_of (1 ∷ [])) (rd_argument
    (number 2) no_argument)) ∷ []) ∷ print (Call 0 (rd_argument (tuple_of []) (rd_argument
    (number 2) no_argument)) ∷ []) ∷ []))
    ((procedure (codes "p") ((rd_parameter (codes "t"))
    ∷ (rd_parameter (codes "n")) ∷ []) (alone 3 (For (over (its (codes "x")) (Name (its
    (codes "t")))) no_condition (alone 3 (While yes (on_line 3 (If (two Equal (Name (its (codes "x"))) (Name (its
    (codes "n")))) (alone 3 (Return (Name (its (codes "x"))))) no_stmt ∷ Quit ∷ []))))))) ∷ [])) (codes "2\n*\n")
    -- print(p([1, 2, 3], 2)); print(p([1], 2)); print(p([], 2));
    -- proc p(t, n); (for x in t) (while true) if x = n then return x; end if; quit; end while; end for; end proc;
    ∷ does 9 (with_procedures (on_line 2 (print (Call 0 (rd_argument (row_of (1 ∷ 2 ∷ 3 ∷ [])) (rd_argument
    (number 2) no_argument)) ∷ []) ∷ print (Call 0 (rd_argument (row_of (1 ∷ [])) (rd_argument
    (number 2) no_argument)) ∷ []) ∷ print (Call 0 (rd_argument (tuple_of []) (rd_argument
    (number 2) no_argument)) ∷ []) ∷ []))
    ((procedure (codes "p") ((rd_parameter (codes "t"))
    ∷ (rd_parameter (codes "n")) ∷ []) (alone 3 (For (over (its (codes "x")) (Name (its
    (codes "t")))) no_condition (alone 3 (While yes (on_line 3 (If (two Equal (Name (its (codes "x"))) (Name (its
    (codes "n")))) (alone 3 (Return (Name (its (codes "x"))))) no_stmt ∷ Quit ∷ []))))))) ∷ []))
    (codes "2\n*\n*\n")
    -- `stop` ends the run:
    -- p(1);
    -- proc p(a);
    -- print(a);
    -- stop;
    -- end proc;
    ∷ does 9 (with_procedures (alone 2 (Perform (Call 0 (rd_argument (number 1) no_argument))))
    ((procedure (codes "p") ((rd_parameter (codes "a")) ∷ []) (lines_from 4
    (print (Name (its (codes "a")) ∷ []) ∷ Stop ∷ []))) ∷ [])) (codes "1\n")
    -- a stop has the line of the statement in the procedure:
    -- p();
    -- proc p();
    -- x := 1 + 'a';
    -- end proc;
    ∷ ends (Stopped Kind 4) 9 (with_procedures (alone 2 (Perform (Call 0 no_argument)))
    ((procedure (codes "p") [] (alone 4 (assign (its (codes "x")) (two Add (number 1)
    (quoted (codes "a")))))) ∷ [])) []
    -- x :=
    -- 1 + p();
    -- proc p(); end proc;
    ∷ ends (Stopped Om 2) 9 (with_procedures (alone 2 (assign x (two Add (number 1) (Call 0 no_argument))))
    ((procedure (codes "p") [] no_stmt) ∷ [])) []
    ∷ []

-- `wr` starts as `om`; `wr` and `rw` are stored at the return from left to right
abbrev pub passing_rows : List Row
passing_rows =
    -- x := 1; p(x); print(x);
    -- proc p(wr a); print(a); a := 5; end proc;
    does 1 (with_procedures (on_line 2 (assign x (number 1) ∷ Perform (Call 0 (wr_argument x no_argument)) ∷ print
    (Name x ∷ []) ∷ [])) ((procedure (codes "p") ((wr_parameter (codes "a"))
    ∷ []) (on_line 3 (print (Name (its (codes "a")) ∷ []) ∷ assign (its (codes "a")) (number 5) ∷ [])))
    ∷ [])) (codes "*\n5\n")
    -- x := 1; p(x); print(x);
    -- proc p(wr a); end proc;
    ∷ does 1 (with_procedures (on_line 2 (assign x (number 1) ∷ Perform (Call 0 (wr_argument x no_argument)) ∷ print
    (Name x ∷ []) ∷ [])) ((procedure (codes "p") ((wr_parameter (codes "a"))
    ∷ []) no_stmt) ∷ [])) (codes "*\n")
    -- x := 1; p(x); print(x);
    -- proc p(rw a); a +:= 1; end proc;
    ∷ does 1 (with_procedures (on_line 2 (assign x (number 1) ∷ Perform (Call 0 (rw_argument x no_argument)) ∷ print
    (Name x ∷ []) ∷ [])) ((procedure (codes "p") ((rw_parameter (codes "a"))
    ∷ []) (alone 3 (combine Add (its (codes "a")) (number 1)))) ∷ [])) (codes "2\n")
    -- x := 1; p(x); print(x);
    -- proc p(a); a +:= 1; end proc;
    ∷ does 1 (with_procedures (on_line 2 (assign x (number 1) ∷ Perform (Call 0 (rd_argument (Name x) no_argument))
    ∷ print (Name x ∷ []) ∷ []))
    ((procedure (codes "p") ((rd_parameter (codes "a")) ∷ []) (alone 3
    (combine Add (its (codes "a")) (number 1)))) ∷ [])) (codes "1\n")
    -- x := 1; y := p(x); print(x, y);
    -- proc p(rw a); a := 7; return a + 1; end proc;
    ∷ does 1 (with_procedures (on_line 2 (assign x (number 1) ∷ assign y (Call 0 (rw_argument x no_argument)) ∷ print
    (Name x ∷ Name y ∷ []) ∷ []))
    ((procedure (codes "p") ((rw_parameter (codes "a")) ∷ []) (on_line 3
    (assign (its (codes "a")) (number 7) ∷ Return (two Add (Name (its (codes "a"))) (number 1)) ∷ []))) ∷ []))
    (codes "7 8\n")
    -- the result is stored after what was passed back:
    -- x := 1; x := p(x); print(x);
    -- proc p(rw a); a := 7; return 9; end proc;
    ∷ does 1 (with_procedures (on_line 2 (assign x (number 1) ∷ assign x (Call 0 (rw_argument x no_argument)) ∷ print
    (Name x ∷ []) ∷ [])) ((procedure (codes "p") ((rw_parameter (codes "a"))
    ∷ []) (on_line 3 (assign (its (codes "a")) (number 7) ∷ Return (number 9) ∷ []))) ∷ [])) (codes "9\n")
    -- var x; x := 1; p(x); print(x);
    -- proc p(rw a); a := 2; x := 3; print(a, x); end proc;
    ∷ does 1 (with_procedures (on_line 2 (assign (Global (codes "x")) (number 1) ∷ Perform (Call 0 (rw_argument (Global
    (codes "x")) no_argument)) ∷ print (Name (Global (codes "x")) ∷ []) ∷ []))
    ((procedure (codes "p") ((rw_parameter (codes "a")) ∷ []) (on_line 3
    (assign (its (codes "a")) (number 2) ∷ assign (Global (codes "x")) (number 3) ∷ print (Name (its (codes "a"))
    ∷ Name (Global (codes "x")) ∷ []) ∷ []))) ∷ [])) (codes "2 3\n2\n")
    -- var x; x := 1; p(x, x); print(x);
    -- proc p(a, rw b); x := 5; print(a, b); a := 7; b := 8; end proc;
    ∷ does 1 (with_procedures (on_line 2 (assign (Global (codes "x")) (number 1) ∷ Perform (Call 0 (rd_argument (Name
    (Global (codes "x"))) (rw_argument (Global (codes "x")) no_argument))) ∷ print (Name (Global (codes "x"))
    ∷ []) ∷ [])) ((procedure (codes "p") ((rd_parameter (codes "a"))
    ∷ (rw_parameter (codes "b")) ∷ []) (on_line 3 (assign (Global (codes "x")) (number 5)
    ∷ print (Name (its (codes "a")) ∷ Name (its (codes "b")) ∷ []) ∷ assign (its (codes "a")) (number 7) ∷ assign
    (its (codes "b")) (number 8) ∷ []))) ∷ [])) (codes "1 1\n8\n")
    ∷ []

-- a procedure sees `var` names, and has its own variables anew in each activation
abbrev pub own_variable_rows : List Row
own_variable_rows =
    -- x := 1; p(); p(); print(x);
    -- proc p(); print(x); x := 2; end proc;
    does 2 (with_procedures (on_line 2 (assign x (number 1) ∷ Perform (Call 0 no_argument) ∷ Perform
    (Call 0 no_argument) ∷ print (Name x ∷ []) ∷ []))
    ((procedure (codes "p") [] (on_line 3 (print (Name (its (codes "x")) ∷ []) ∷ assign
    (its (codes "x")) (number 2) ∷ []))) ∷ [])) (codes "*\n*\n1\n")
    -- var x; x := 1; p(); p(); print(x);
    -- proc p(); print(x); x +:= 1; end proc;
    ∷ does 2 (with_procedures (on_line 2 (assign (Global (codes "x")) (number 1) ∷ Perform (Call 0 no_argument)
    ∷ Perform (Call 0 no_argument) ∷ print (Name (Global (codes "x")) ∷ []) ∷ []))
    ((procedure (codes "p") [] (on_line 3 (print (Name (Global (codes "x")) ∷ [])
    ∷ combine Add (Global (codes "x")) (number 1) ∷ []))) ∷ [])) (codes "1\n2\n3\n")
    -- a parameter hides a `var` name:
    -- var x; x := 1; p(5); print(x);
    -- proc p(x); print(x); x := 9; end proc;
    ∷ does 1 (with_procedures (on_line 2 (assign (Global (codes "x")) (number 1) ∷ Perform (Call 0 (rd_argument
    (number 5) no_argument)) ∷ print (Name (Global (codes "x")) ∷ []) ∷ []))
    ((procedure (codes "p") ((rd_parameter (codes "x")) ∷ []) (on_line 3
    (print (Name (its (codes "x")) ∷ []) ∷ assign (its (codes "x")) (number 9) ∷ []))) ∷ [])) (codes "5\n1\n")
    -- p(2);
    -- proc p(n); x := n; if n > 0 then p(n - 1); end if; print(x); end proc;
    ∷ does 3 (with_procedures (alone 2 (Perform (Call 0 (rd_argument (number 2) no_argument))))
    ((procedure (codes "p") ((rd_parameter (codes "n")) ∷ []) (on_line 3
    (assign (its (codes "x")) (Name (its (codes "n"))) ∷ If (two Above (Name (its (codes "n"))) (number 0))
    (alone 3 (Perform (Call 0 (rd_argument (two Subtract (Name (its (codes "n")))
    (number 1)) no_argument)))) no_stmt ∷ print (Name (its (codes "x")) ∷ []) ∷ []))) ∷ [])) (codes "0\n1\n2\n")
    -- s := {1, 2}; print([p(x) : x in s]);
    -- proc p(n); x := n; return x + 1; end proc;
    -- with 3 turns
    ∷ ends Spent 3 (with_procedures (on_line 2 (assign s (enumeration (1 ∷ 2 ∷ [])) ∷ print (Former OfTuple (Call 0
    (rd_argument (Name (Bound 1 (codes "x"))) no_argument)) (over (Bound 1 (codes "x")) (Name s)) no_condition
    ∷ []) ∷ [])) ((procedure (codes "p") ((rd_parameter (codes "n"))
    ∷ []) (on_line 3 (assign (its (codes "x")) (Name (its (codes "n"))) ∷ Return (two Add (Name (its
    (codes "x"))) (number 1)) ∷ []))) ∷ [])) []
    -- s := {1, 2}; print([p(x) : x in s]);
    -- proc p(n); x := n; return x + 1; end proc;
    ∷ does 4 (with_procedures (on_line 2 (assign s (enumeration (1 ∷ 2 ∷ [])) ∷ print (Former OfTuple (Call 0
    (rd_argument (Name (Bound 1 (codes "x"))) no_argument)) (over (Bound 1 (codes "x")) (Name s)) no_condition
    ∷ []) ∷ [])) ((procedure (codes "p") ((rd_parameter (codes "n"))
    ∷ []) (on_line 3 (assign (its (codes "x")) (Name (its (codes "n"))) ∷ Return (two Add (Name (its
    (codes "x"))) (number 1)) ∷ []))) ∷ [])) (codes "[2 3]\n")
    -- var n; n := 0; print(p() + p() * 10);
    -- proc p(); n +:= 1; return n; end proc;
    ∷ does 2 (with_procedures (on_line 2 (assign (Global (codes "n")) (number 0) ∷ print (two Add (Call 0 no_argument)
    (two Multiply (Call 0 no_argument) (number 10)) ∷ []) ∷ []))
    ((procedure (codes "p") [] (on_line 3 (combine Add (Global (codes "n")) (number 1)
    ∷ Return (Name (Global (codes "n"))) ∷ []))) ∷ [])) (codes "21\n")
    ∷ []
