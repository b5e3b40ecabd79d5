use Rattle.std.proofs.Common.{◌≡◌, ◌≢◌, ◌++◌, ◌∙◌, inl, inr, ℕ, List, Option, Err, sym, ap, subst, arith}
use Rattle.std.specs.Prelude.{IfErr}
use Rattle.exb_run.proofs.StatusCounts.{counted-at, counted-by}
use Rattle.exb_cli.specs.CommandLines.{Ask}
use Rattle.exb_run.specs.Answers.{asked}
use Rattle.exb_inputs.specs.Answers.{status_of, line_of}
use Rattle.exb_run.specs.OpenedFiles.{OpensInOrder}
use Rattle.exb_run.specs.Outcomes.{CanCome}
use Rattle.exb_run.proofs.Headlines.{headline_by, net_headline_by}
use Rattle.exb_run.proofs.OpenedFiles.{opens_by_status}
use Rattle.exb_run.proofs.NetOutcomes.{opened_by_net}
use Rattle.exb_run.proofs.OpenOrder.{opened_by_run}
use Rattle.exb_run.proofs.PrintedLines.{line_is, memory_is_one, prints_by}
use Rattle.exb_run.proofs.Reports.{can_be, cause_of, done_by, fault_says, front_by, is_missing, is_read, is_usage, made_is, making_end, none_by_usage, not_ten, of_input, read_line, run_by_write, status_cases, status_is, stop_not_one, stop_not_seven, stop_not_six, stops_with, text_by, usage_line, write_line, write_or_not}
use Rattle.exb_inputs.proofs.Outcomes.{Outcome}
use Rattle.exb_run.proofs.UniqueFault.{can_not, failure_is}
use Rattle.exb_run.proofs.top.run.Goals as goal

-- ---- what is done
pub returns-clause-done : goal.returns-clause-done
returns-clause-done g c = record {
  headline = λ name options a t o e.
      let n1 : c.report-status.result ≢ 1 = λ h. omega arith in
      let n7 : c.report-status.result ≢ 7 = λ h. omega arith in
      let found = done_by c.work-outcome.result (asked c.args.words.now) (g.S.Shelf.file c.args.shelf.now) (g.S.Shelf.file c.work-outcome.new.shelf) (c.work-outcome.ensures.came.done t) (sym (c.report-status.ensures.status n1 n7) ∙ e) in
      headline_by (asked c.args.words.now) name options (g.S.Shelf.file c.args.shelf.now) (g.S.Shelf.file c.work-outcome.new.shelf) found.0 (g.O.Sink.text c.args.out.now) (g.O.Sink.text c.report-status.new.out) a found.1
      (c.report-status.ensures.whole o n1 n7 ∙ ap (λ (xs : List ℕ). g.O.Sink.text c.args.out.now ++ xs) (sym found.2));
  net = λ name counters a t o e.
      let n1 : c.report-status.result ≢ 1 = λ h. omega arith in
      let n7 : c.report-status.result ≢ 7 = λ h. omega arith in
      let found = done_by c.work-outcome.result (asked c.args.words.now) (g.S.Shelf.file c.args.shelf.now) (g.S.Shelf.file c.work-outcome.new.shelf) (c.work-outcome.ensures.came.done t) (sym (c.report-status.ensures.status n1 n7) ∙ e) in
      net_headline_by (asked c.args.words.now) name counters (g.S.Shelf.file c.args.shelf.now) (g.S.Shelf.file c.work-outcome.new.shelf) found.0 (g.O.Sink.text c.args.out.now) (g.O.Sink.text c.report-status.new.out) a found.1
      (c.report-status.ensures.whole o n1 n7 ∙ ap (λ (xs : List ℕ). g.O.Sink.text c.args.out.now ++ xs) (sym found.2));
  done = λ t o e.
      let n1 : c.report-status.result ≢ 1 = λ h. omega arith in
      let n7 : c.report-status.result ≢ 7 = λ h. omega arith in
      let found = done_by c.work-outcome.result (asked c.args.words.now) (g.S.Shelf.file c.args.shelf.now) (g.S.Shelf.file c.work-outcome.new.shelf) (c.work-outcome.ensures.came.done t) (sym (c.report-status.ensures.status n1 n7) ∙ e) in
      (found.0, found.1, c.report-status.ensures.whole o n1 n7 ∙ ap (λ (xs : List ℕ). g.O.Sink.text c.args.out.now ++ xs) (sym found.2));
  ran = λ t e.
      let found = done_by c.work-outcome.result (asked c.args.words.now) (g.S.Shelf.file c.args.shelf.now) (g.S.Shelf.file c.work-outcome.new.shelf) (c.work-outcome.ensures.came.done t) (sym (c.report-status.ensures.status (λ h. omega arith) (λ h. omega arith)) ∙ e) in
      (found.0, found.1);
  makes = λ number a o e.
      let n1 : c.report-status.result ≢ 1 = λ h. omega arith in
      let n7 : c.report-status.result ≢ 7 = λ h. omega arith in
      c.report-status.ensures.whole o n1 n7
      ∙ ap (λ (xs : List ℕ). g.O.Sink.text c.args.out.now ++ xs) (text_by c.work-outcome.result _ (c.work-outcome.ensures.makes number a) (sym (c.report-status.ensures.status n1 n7) ∙ e));
}

-- ---- what is refused
pub returns-clause-refused : goal.returns-clause-refused
returns-clause-refused g c = record {
  two = λ e.
      let is = is_usage c.work-outcome.result (sym (c.report-status.ensures.status (λ h. omega arith) (λ h. omega arith)) ∙ e) in
      none_by_usage (asked c.args.words.now) c.work-outcome.result c.work-outcome.ensures.came.can_come is;
  usage = λ none n1 n7. c.report-status.ensures.status n1 n7 ∙ ap status_of (c.work-outcome.ensures.came.unaccepted none);
  usage_seven = λ none e. c.report-status.ensures.seven e (λ h. let two : 2 ≡ 7 = sym (ap status_of (c.work-outcome.ensures.came.unaccepted none)) ∙ h in omega arith);
  first = λ t h.
      let is = of_input c.report-status.result h in
      stops_with c.work-outcome.result (asked c.args.words.now) (g.S.Shelf.file c.args.shelf.now) c.report-status.result (c.work-outcome.ensures.came.cause t) (sym (c.report-status.ensures.status is.one is.seven)) is.late is.six is.seven;
  stops = λ t fault stops n1 n6 n7.
      let is : c.report-status.result ≡ status_of c.work-outcome.result = c.report-status.ensures.status n1 n7 in
      elim (c.work-outcome.ensures.came.stops t fault stops) [
        | inl found ↦ is ∙ ap status_of found
        | inr other ↦ elim other [
          | inl read ↦ absurd (n6 (is ∙ ap status_of read))
          | inr memory ↦ absurd (n1 (is ∙ ap status_of memory))
        ]
      ];
  stops_seven = λ t fault stops e. c.report-status.ensures.seven e (elim (c.work-outcome.ensures.came.stops t fault stops) [
    | inl found ↦ λ s. stop_not_seven (asked c.args.words.now) (g.S.Shelf.file c.args.shelf.now) fault stops (sym (ap status_of found) ∙ s)
    | inr other ↦ elim other [
      | inl read ↦ λ s. let h : 6 ≡ 7 = sym (ap status_of read) ∙ s in omega arith
      | inr memory ↦ λ s. let h : 1 ≡ 7 = sym (ap status_of memory) ∙ s in omega arith
    ]
  ]);
  stops_says = λ t o fault stops e.
      let n1 : c.report-status.result ≢ 1 = λ h. stop_not_one (asked c.args.words.now) (g.S.Shelf.file c.args.shelf.now) fault stops (sym e ∙ h) in
      let n7 : c.report-status.result ≢ 7 = λ h. stop_not_seven (asked c.args.words.now) (g.S.Shelf.file c.args.shelf.now) fault stops (sym e ∙ h) in
      let is : c.report-status.result ≡ status_of c.work-outcome.result = c.report-status.ensures.status n1 n7 in
      elim (c.work-outcome.ensures.came.stops t fault stops) [
        | inl found ↦ c.report-status.ensures.whole o n1 n7 ∙ ap (λ (p : Outcome). g.O.Sink.text c.args.out.now ++ line_of p) found
        | inr other ↦ elim other [
          | inl read ↦ absurd (stop_not_six (asked c.args.words.now) (g.S.Shelf.file c.args.shelf.now) fault stops (sym e ∙ is ∙ ap status_of read))
          | inr memory ↦ absurd (n1 (is ∙ ap status_of memory))
        ]
      ];
  stopped = c.work-outcome.ensures.came.stopped;
  early = λ n0 n1 n6 n7 n10.
      let is : c.report-status.result ≡ status_of c.work-outcome.result = c.report-status.ensures.status n1 n7 in
      making_end c.work-outcome.result _ c.work-outcome.ensures.came.early (λ e. n0 (is ∙ e)) (λ e. n1 (is ∙ e)) (λ e. n6 (is ∙ e)) (λ e. n7 (is ∙ e)) (λ e. n10 (is ∙ e));
}

-- ---- what breaks off
pub returns-clause-broken : goal.returns-clause-broken
returns-clause-broken g c = record {
  rose =
      let o = c.work-outcome.result in
      record {
        five = λ e. let missing = is_missing o (sym (c.report-status.ensures.status (λ h. omega arith) (λ h. omega arith)) ∙ e) in c.work-outcome.ensures.faults.missing missing.0 missing.1;
        six = λ e. c.work-outcome.ensures.faults.read (is_read o (sym (c.report-status.ensures.status (λ h. omega arith) (λ h. omega arith)) ∙ e));
        seven = λ e. elim (write_or_not o) [
          | inl write ↦ inl (run_by_write (asked c.args.words.now) o c.work-outcome.ensures.came.can_come write, c.work-outcome.ensures.faults.write write)
          | inr other ↦ inr (c.report-status.ensures.seven e other)
        ];
      };
  counts =
      counted-by c.work-outcome.result c.report-status.result (g.S.Shelf.faults c.args.shelf.now) (g.S.Shelf.faults c.work-outcome.new.shelf) _ _ c.report-status.ensures.status c.report-status.ensures.seven c.work-outcome.ensures.faults.once;
  sink = c.report-status.ensures.counts;
  ended = record {
    own = status_of c.work-outcome.result;
    line = line_of c.work-outcome.result;
    is = line_is c.work-outcome.result (asked c.args.words.now) (g.S.Shelf.faults c.args.shelf.now) (g.S.Shelf.faults c.work-outcome.new.shelf) c.work-outcome.ensures.came.can_come c.work-outcome.ensures.came.says c.work-outcome.ensures.faults;
    prints = c.report-status.ensures.once;
    counts = counted-at c.work-outcome.result (g.S.Shelf.faults c.args.shelf.now) (g.S.Shelf.faults c.work-outcome.new.shelf) c.work-outcome.ensures.faults.once;
    reads = λ early. c.work-outcome.ensures.opens.reads early.0 early.1 early.2 early.3 early.4;
    same = λ early. making_end c.work-outcome.result _ c.work-outcome.ensures.came.early early.0 early.1 early.2 early.3 early.4;
  };
  out_of_memory = λ o.
      memory_is_one c.work-outcome.result (asked c.args.words.now) c.report-status.result (g.O.Sink.text c.args.out.now) (g.O.Sink.text c.report-status.new.out) c.work-outcome.ensures.came.says (c.report-status.ensures.front o) (c.report-status.ensures.short o);
  ten_never = λ t e.
      let o = c.work-outcome.result in
      let is : c.report-status.result ≡ status_of o = c.report-status.ensures.status (λ h. omega arith) (λ h. omega arith) in
      not_ten o (asked c.args.words.now) (g.S.Shelf.file c.args.shelf.now) (c.work-outcome.ensures.came.cause t) (sym is ∙ e);
  complete = λ t can no_reads no_writes no_out n1.
      let o = c.work-outcome.result in
      let n7 : c.report-status.result ≢ 7 = λ e. elim (write_or_not o) [
        | inl write ↦ no_writes (c.work-outcome.ensures.faults.write write)
        | inr other ↦ no_out (c.report-status.ensures.seven e other)
      ] in
      let is : c.report-status.result ≡ status_of o = c.report-status.ensures.status n1 n7 in
      status_cases o (c.report-status.result ≡ 0) (λ zero. is ∙ zero) (λ x e. absurd (elim (cause_of (asked c.args.words.now) (g.S.Shelf.file c.args.shelf.now) o x (c.work-outcome.ensures.came.cause t) e) [
        | inl stops ↦ can_not (asked c.args.words.now) (g.S.Shelf.file c.args.shelf.now) x can stops
        | inr failure ↦ elim (failure_is (asked c.args.words.now) x failure) [
          | inl read ↦ no_reads (c.work-outcome.ensures.faults.read (e ∙ ap Err read))
          | inr other ↦ elim other [
            | inl write ↦ no_writes (c.work-outcome.ensures.faults.write (e ∙ ap Err write))
            | inr memory ↦ n1 (is ∙ ap status_of (e ∙ ap Err memory))
          ]
        ]
      ]));
  complete_made = λ number a no_out n1.
      let o = c.work-outcome.result in
      let come = subst (λ (b : Option Ask). IfErr o (CanCome b)) a c.work-outcome.ensures.came.can_come in
      elim (made_is o number come) [
        | inl zero ↦ c.report-status.ensures.status n1 (λ e. no_out (c.report-status.ensures.seven e (λ h. let seven : 0 ≡ 7 = sym zero ∙ h in omega arith))) ∙ zero
        | inr one ↦ absurd (n1 (c.report-status.ensures.status n1 (λ e. no_out (c.report-status.ensures.seven e (λ h. let seven : 1 ≡ 7 = sym one ∙ h in omega arith))) ∙ one))
      ];
}

-- ---- what is printed, what stays, and what is opened
pub returns-clause-leaves : goal.returns-clause-leaves
returns-clause-leaves g c = record {
  says = λ t. record {
    two = λ e.
        let n1 : c.report-status.result ≢ 1 = λ h. omega arith in
        let n7 : c.report-status.result ≢ 7 = λ h. omega arith in
        let is = is_usage c.work-outcome.result (sym (c.report-status.ensures.status n1 n7) ∙ e) in
        c.report-status.ensures.whole t n1 n7 ∙ ap (λ (xs : List ℕ). g.O.Sink.text c.args.out.now ++ xs) (usage_line c.work-outcome.result is);
    three = λ e.
        let n1 : c.report-status.result ≢ 1 = λ h. omega arith in
        let n7 : c.report-status.result ≢ 7 = λ h. omega arith in
        fault_says c.work-outcome.result 3 _ _ (sym (c.report-status.ensures.status n1 n7) ∙ e) (omega arith) (can_be (asked c.args.words.now) c.work-outcome.result c.work-outcome.ensures.came.can_come) (c.report-status.ensures.whole t n1 n7);
    four = λ e.
        let n1 : c.report-status.result ≢ 1 = λ h. omega arith in
        let n7 : c.report-status.result ≢ 7 = λ h. omega arith in
        fault_says c.work-outcome.result 4 _ _ (sym (c.report-status.ensures.status n1 n7) ∙ e) (omega arith) (can_be (asked c.args.words.now) c.work-outcome.result c.work-outcome.ensures.came.can_come) (c.report-status.ensures.whole t n1 n7);
    five = λ e.
        let n1 : c.report-status.result ≢ 1 = λ h. omega arith in
        let n7 : c.report-status.result ≢ 7 = λ h. omega arith in
        fault_says c.work-outcome.result 5 _ _ (sym (c.report-status.ensures.status n1 n7) ∙ e) (omega arith) (can_be (asked c.args.words.now) c.work-outcome.result c.work-outcome.ensures.came.can_come) (c.report-status.ensures.whole t n1 n7);
    six = λ e.
        let n1 : c.report-status.result ≢ 1 = λ h. omega arith in
        let n7 : c.report-status.result ≢ 7 = λ h. omega arith in
        let is = is_read c.work-outcome.result (sym (c.report-status.ensures.status n1 n7) ∙ e) in
        c.report-status.ensures.whole t n1 n7 ∙ ap (λ (xs : List ℕ). g.O.Sink.text c.args.out.now ++ xs) (read_line c.work-outcome.result is);
    seven = λ e no_sink.
        elim (write_or_not c.work-outcome.result) [
          | inl is ↦ c.report-status.ensures.whole_seven t e no_sink ∙ ap (λ (xs : List ℕ). g.O.Sink.text c.args.out.now ++ xs) (write_line c.work-outcome.result is)
          | inr other ↦ absurd (no_sink (c.report-status.ensures.seven e other))
        ];
    ten = λ e.
        let n1 : c.report-status.result ≢ 1 = λ h. omega arith in
        let n7 : c.report-status.result ≢ 7 = λ h. omega arith in
        fault_says c.work-outcome.result 10 _ _ (sym (c.report-status.ensures.status n1 n7) ∙ e) (omega arith) (can_be (asked c.args.words.now) c.work-outcome.result c.work-outcome.ensures.came.can_come) (c.report-status.ensures.whole t n1 n7);
    eleven = λ e.
        let n1 : c.report-status.result ≢ 1 = λ h. omega arith in
        let n7 : c.report-status.result ≢ 7 = λ h. omega arith in
        fault_says c.work-outcome.result 11 _ _ (sym (c.report-status.ensures.status n1 n7) ∙ e) (omega arith) (can_be (asked c.args.words.now) c.work-outcome.result c.work-outcome.ensures.came.can_come) (c.report-status.ensures.whole t n1 n7);
    twelve = λ e.
        let n1 : c.report-status.result ≢ 1 = λ h. omega arith in
        let n7 : c.report-status.result ≢ 7 = λ h. omega arith in
        fault_says c.work-outcome.result 12 _ _ (sym (c.report-status.ensures.status n1 n7) ∙ e) (omega arith) (can_be (asked c.args.words.now) c.work-outcome.result c.work-outcome.ensures.came.can_come) (c.report-status.ensures.whole t n1 n7);
  };
  front = λ t o.
      front_by c.work-outcome.result (asked c.args.words.now) (g.S.Shelf.file c.args.shelf.now) (g.S.Shelf.file c.work-outcome.new.shelf) (g.S.Shelf.faults c.args.shelf.now) (g.S.Shelf.faults c.work-outcome.new.shelf) _ _ (c.work-outcome.ensures.came.done t)
      (c.work-outcome.ensures.came.cause t) c.work-outcome.ensures.faults.read c.work-outcome.ensures.faults.write (c.report-status.ensures.front o);
  prints = λ o.
      prints_by c.work-outcome.result (asked c.args.words.now) (g.S.Shelf.faults c.args.shelf.now) (g.S.Shelf.faults c.work-outcome.new.shelf) c.report-status.result _ _ c.work-outcome.ensures.came.can_come c.work-outcome.ensures.came.says
      c.work-outcome.ensures.faults c.report-status.ensures.status (c.report-status.ensures.whole o) (c.report-status.ensures.front o) (c.report-status.ensures.short o);
  read_only = c.work-outcome.ensures.came.read_only;
  others = c.work-outcome.ensures.came.others;
  fronts = c.work-outcome.ensures.came.fronts;
  parts = c.work-outcome.ensures.came.parts;
  opens = opens_by_status _ (asked c.args.words.now) (g.S.Shelf.file c.args.shelf.now) c.report-status.result c.work-outcome.result _ _ c.report-status.ensures.status c.work-outcome.ensures.opens;
  order = λ name options a.
      let o = c.work-outcome.result in
      opened_by_run g.S.Shelf.tells g.O.Sink.tells name options o c.report-status.result (g.S.Shelf.file c.args.shelf.now) _ _ (g.O.Sink.text c.args.out.now) (g.O.Sink.text c.report-status.new.out) c.report-status.ensures.status
      (λ p n1 n7. c.report-status.ensures.whole p n1 n7) (subst (λ (b : Option Ask). IfErr o (CanCome b)) a c.work-outcome.ensures.came.can_come)
      (can_be (asked c.args.words.now) o c.work-outcome.ensures.came.can_come)
      (subst (λ (b : Option Ask). OpensInOrder g.S.Shelf.tells b o (g.S.Shelf.file c.args.shelf.now) (g.S.Shelf.ids c.args.shelf.now) (g.S.Shelf.ids c.work-outcome.new.shelf)) a c.work-outcome.ensures.order);
  net_order = λ name counters a.
      let o = c.work-outcome.result in
      opened_by_net g.S.Shelf.tells g.O.Sink.tells name counters o c.report-status.result (g.S.Shelf.file c.args.shelf.now) _ _ (g.O.Sink.text c.args.out.now) (g.O.Sink.text c.report-status.new.out) c.report-status.ensures.status
      (λ p n1 n7. c.report-status.ensures.whole p n1 n7) (subst (λ (b : Option Ask). IfErr o (CanCome b)) a c.work-outcome.ensures.came.can_come)
      (can_be (asked c.args.words.now) o c.work-outcome.ensures.came.can_come)
      (subst (λ (b : Option Ask). OpensInOrder g.S.Shelf.tells b o (g.S.Shelf.file c.args.shelf.now) (g.S.Shelf.ids c.args.shelf.now) (g.S.Shelf.ids c.work-outcome.new.shelf)) a c.work-outcome.ensures.order);
}

pub returns-clause-status : goal.returns-clause-status
returns-clause-status g c = status_is (asked c.args.words.now) c.work-outcome.result c.report-status.result c.work-outcome.ensures.came.can_come c.work-outcome.ensures.came.unaccepted c.report-status.ensures.status
