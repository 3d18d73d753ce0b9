-- Worked rows of backtracking.
use Rattle.std.specs.Prelude.{List, [], ◌∷◌, codes}
use Rattle.setl_model_runs.specs.Variable.{Global, Bound}
use Rattle.setl_operators_table.specs.declared.Operator.TheVariants.{With, Add, Subtract, Equal, NotEqual, Size, Abs}
use Rattle.setl_program.specs.declared.kinds.Collection.TheVariants.{OfSet}
use Rattle.setl_program.specs.declared.kinds.Connective.TheVariants.{Or}
use Rattle.setl_program.specs.declared.kinds.Quantifier.TheVariants.{Exists}
use Rattle.setl_program.specs.Program.{Name, Connect, Quantified, Call, Newat, Eof, Ok, no_condition, no_argument, rd_argument, rw_argument, Perform, If, For, Quit, Fail, Succeed, Stop, Return, Read, no_stmt}
use Rattle.setl_model_runs.specs.Events.{Nothing, Done, Stopped, Spent}
use Rattle.setl_program.specs.Source.{its, i, j, k, n, q, s, x, y, number, one, two, tuple_of, enumeration, row_of, at_round, over, between, assign, combine, print, on_line, at, alone, lines_from, just, with_procedures, procedure, select_over, rd_parameter, rw_parameter}
use Rattle.setl_model.specs.Table.{Row, does, ends, reads}

-- `fail` brings the latest kept environment back and forgets it
abbrev pub back_rows : List Row
back_rows =
    -- s := {1};
    -- if ok then s with:= 2; print(s); fail; else print(s); end if;
    does 1 (just (lines_from 2 (assign s (enumeration (1 ∷ [])) ∷ If Ok (on_line 3 (combine With s (number 2) ∷ print
    (Name s ∷ []) ∷ Fail ∷ [])) (alone 3 (print (Name s ∷ []))) ∷ []))) (codes "{1 2}\n{1}\n")
    -- x := p(); print(x); if x = 1 then fail; end if;
    -- proc p(); if ok then return 1; else return 2; end if; end proc;
    ∷ does 2 (with_procedures (on_line 2 (assign x (Call 0 no_argument) ∷ print (Name x ∷ []) ∷ If (two Equal (Name x)
    (number 1)) (alone 2 Fail) no_stmt ∷ [])) ((procedure (codes "p") [] (alone 3 (If Ok
    (alone 3 (Return (number 1))) (alone 3 (Return (number 2)))))) ∷ [])) (codes "1\n2\n")
    -- if ok then print(1);
    -- fail; end if;
    -- with 0 turns
    ∷ ends Spent 0 (just (alone 2 (If Ok (lines_from 2 (print (number 1 ∷ []) ∷ Fail ∷ [])) no_stmt))) (codes "1\n")
    -- that nothing is kept is tested before the turn:
    -- fail;
    ∷ ends (Stopped Nothing 2) 0 (just (alone 2 Fail)) []
    -- if ok then fail; end if;
    -- fail;
    ∷ ends (Stopped Nothing 3) 1 (just (lines_from 2 (If Ok (alone 2 Fail) no_stmt ∷ Fail ∷ []))) []
    -- if ok then if ok then print(1); fail; end if; print(2); fail; end if; print(3);
    ∷ does 2 (just (on_line 2 (If Ok (on_line 2 (If Ok (on_line 2 (print (number 1 ∷ []) ∷ Fail ∷ [])) no_stmt ∷ print
    (number 2 ∷ []) ∷ Fail ∷ [])) no_stmt ∷ print (number 3 ∷ []) ∷ []))) (codes "1\n2\n3\n")
    -- if ok then print(1); if ok then print(2); fail; else print(3); fail; end if; else print(4); end if;
    ∷ does 2 (just (alone 2 (If Ok (on_line 2 (print (number 1 ∷ []) ∷ If Ok (on_line 2 (print (number 2 ∷ []) ∷ Fail
    ∷ [])) (on_line 2 (print (number 3 ∷ []) ∷ Fail ∷ [])) ∷ [])) (alone 2 (print (number 4 ∷ []))))))
    (codes "1\n2\n3\n4\n")
    -- `succeed` forgets the latest kept environment and keeps all changes:
    -- s := {1};
    -- if ok then s with:= 2; succeed; print(s); else print(0); end if;
    -- fail;
    ∷ ends (Stopped Nothing 4) 0 (just (lines_from 2 (assign s (enumeration (1 ∷ [])) ∷ If Ok (on_line 3
    (combine With s (number 2) ∷ Succeed ∷ print (Name s ∷ []) ∷ [])) (alone 3 (print (number 0 ∷ []))) ∷ Fail ∷ [])))
    (codes "{1 2}\n")
    -- x := 0; if ok then x := 1; if ok then x := 2; succeed; end if; print(x); fail; else print(x); end if;
    ∷ does 1 (just (on_line 2 (assign x (number 0) ∷ If Ok (on_line 2 (assign x (number 1) ∷ If Ok (on_line 2
    (assign x (number 2) ∷ Succeed ∷ [])) no_stmt ∷ print (Name x ∷ []) ∷ Fail ∷ [])) (alone 2 (print (Name x ∷ [])))
    ∷ []))) (codes "2\n0\n")
    -- it takes no turn:
    -- if ok then succeed; end if;
    -- with 0 turns
    ∷ does 0 (just (alone 2 (If Ok (alone 2 Succeed) no_stmt))) []
    -- succeed;
    ∷ ends (Stopped Nothing 2) 0 (just (alone 2 Succeed)) []
    -- the operands in hand are kept:
    -- x := [newat, ok]; print(x); if x(2) then fail; end if;
    ∷ does 2 (just (on_line 2 (assign x (tuple_of (Newat ∷ Ok ∷ [])) ∷ print (Name x ∷ []) ∷ If (at_round (Name x)
    (number 2)) (alone 2 Fail) no_stmt ∷ []))) (codes "[#1 true]\n[#1 false]\n")
    -- drawn atoms are not given back:
    -- if ok then x := newat; fail; end if; y := newat; print(x, y);
    ∷ does 5 (just (on_line 2 (If Ok (on_line 2 (assign x Newat ∷ Fail ∷ [])) no_stmt ∷ assign y Newat ∷ print (Name x
    ∷ Name y ∷ []) ∷ []))) (codes "* #2\n")
    -- nor are turns:
    -- if ok then x := newat; fail; end if; y := newat;
    -- with 2 turns
    ∷ ends Spent 2 (just (on_line 2 (If Ok (on_line 2 (assign x Newat ∷ Fail ∷ [])) no_stmt ∷ assign y Newat ∷ []))) []
    -- n := 0; (for x in [1, 2]) if ok then n +:= x; print(x, n); fail; end if; print(x, n); end for;
    ∷ does 4 (just (on_line 2 (assign n (number 0) ∷ For (over x (row_of (1 ∷ 2 ∷ []))) no_condition (on_line 2 (If Ok
    (on_line 2 (combine Add n (Name x) ∷ print (Name x ∷ Name n ∷ []) ∷ Fail ∷ [])) no_stmt ∷ print (Name x
    ∷ Name n ∷ []) ∷ [])) ∷ []))) (codes "1 1\n1 0\n2 2\n2 0\n")
    -- the iterators are kept:
    -- x := exists y in [1, 2, 3] | ok; print(x, y); if y /= 3 then fail; end if;
    ∷ does 5 (just (on_line 2 (assign x (Quantified Exists (over y (row_of (1 ∷ 2 ∷ 3 ∷ []))) Ok) ∷ print (Name x
    ∷ Name y ∷ []) ∷ If (two NotEqual (Name y) (number 3)) (alone 2 Fail) no_stmt ∷ [])))
    (codes "true 1\ntrue 2\ntrue 3\n")
    -- s := {x in {1, 2} | ok}; print(s); if s /= {2} then fail; end if;
    ∷ does 7 (just (on_line 2 (assign s (select_over OfSet (Bound 1 (codes "x")) (enumeration (1 ∷ 2 ∷ [])) Ok) ∷ print (Name s ∷ []) ∷ If (two NotEqual (Name s) (enumeration (2 ∷ []))) (alone 2 Fail) no_stmt
    ∷ []))) (codes "{1 2}\n{1}\n{2}\n")
    -- var x; x := 1; y := 1; p(y); print(x, y);
    -- proc p(rw a); x := 2; if ok then x := 3; a := 4; fail; else print(x, a); end if; end proc;
    ∷ does 3 (with_procedures (on_line 2 (assign (Global (codes "x")) (number 1) ∷ assign y (number 1) ∷ Perform (Call 0
    (rw_argument y no_argument)) ∷ print (Name (Global (codes "x")) ∷ Name y ∷ []) ∷ []))
    ((procedure (codes "p") ((rw_parameter (codes "a")) ∷ []) (on_line 3
    (assign (Global (codes "x")) (number 2) ∷ If Ok (on_line 3 (assign (Global (codes "x")) (number 3) ∷ assign
    (its (codes "a")) (number 4) ∷ Fail ∷ [])) (alone 3 (print (Name (Global (codes "x")) ∷ Name (its (codes "a"))
    ∷ []))) ∷ []))) ∷ [])) (codes "2 1\n2 1\n")
    -- print(p(1)); fail;
    -- proc p(n); if ok then return n; else return n + 1; end if; end proc;
    ∷ ends (Stopped Nothing 2) 4 (with_procedures (on_line 2 (print (Call 0 (rd_argument (number 1) no_argument) ∷ [])
    ∷ Fail ∷ [])) ((procedure (codes "p") ((rd_parameter (codes "n"))
    ∷ []) (alone 3 (If Ok (alone 3 (Return (Name (its (codes "n"))))) (alone 3 (Return (two Add (Name (its
    (codes "n"))) (number 1))))))) ∷ [])) (codes "1\n2\n")
    -- (for x in [1, 2, 3]) if ok then quit; end if; end for; print(x); if x = 1 then stop; end if;
    ∷ does 2 (just (on_line 2 (For (over x (row_of (1 ∷ 2 ∷ 3 ∷ []))) no_condition (alone 2 (If Ok
    (alone 2 Quit) no_stmt)) ∷ print (Name x ∷ []) ∷ If (two Equal (Name x) (number 1)) (alone 2 Stop) no_stmt
    ∷ []))) (codes "1\n")
    ∷ []

-- what was read is not given back, nor is the truth of `eof`
abbrev pub back_input_rows : List Row
back_input_rows =
    -- if ok then read(x); fail; end if; read(y); print(x, y);
    reads (codes "1 2") 1 (just (on_line 2 (If Ok (on_line 2 (Read (x ∷ []) ∷ Fail ∷ [])) no_stmt ∷ Read (y ∷ [])
    ∷ print (Name x ∷ Name y ∷ []) ∷ []))) (codes "* 2\n") Done
    -- if ok then read(x); fail; end if; print(eof, x);
    ∷ reads (codes " ") 1 (just (on_line 2 (If Ok (on_line 2 (Read (x ∷ []) ∷ Fail ∷ [])) no_stmt ∷ print (Eof ∷ Name x
    ∷ []) ∷ []))) (codes "true *\n") Done
    -- q := [];
    -- (for i in [1..4])
    -- if exists j in [1..4] | ok then
    -- if exists k in [1..#q] | q(k) = j or abs (q(k) - j) = i - k then fail; end if;
    -- q with:= j;
    -- else fail;
    -- end if;
    -- end for;
    -- print(q);
    ∷ does 200 (just (at 2 (assign q (tuple_of [])) (at 3 (For (between i (number 1) (number 4)) no_condition (alone 4
    (If (Quantified Exists (between j (number 1) (number 4)) Ok) (lines_from 5 (If (Quantified Exists (between k
    (number 1) (one Size (Name q))) (Connect Or (two Equal (at_round (Name q) (Name k)) (Name j)) (two Equal
    (one Abs (two Subtract (at_round (Name q) (Name k)) (Name j))) (two Subtract (Name i) (Name k)))))
    (alone 5 Fail) no_stmt ∷ combine With q (Name j) ∷ [])) (alone 7 Fail)))) (at 10 (print (Name q
    ∷ [])) no_stmt)))) (codes "[2 4 1 3]\n")
    ∷ []
