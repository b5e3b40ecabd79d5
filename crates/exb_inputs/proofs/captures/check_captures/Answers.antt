use Rattle.std.proofs.Common.{rules, ◌≡◌, ◌+◌, ◌<◌, ◌≤◌, ◌*◌, ◌^◌, ◌++◌, ◌∷◌, [], ◌∙◌, inl, inr, ℕ, List, Option, Some, None, filter, map, ap, sym, subst, arith, add-one, below_more, refl}
use Rattle.std.specs.Prelude.{IfSome, is_some}
use Rattle.std.proofs.lemmas.List.{map-append}
use Rattle.std.proofs.lemmas.Result.{err_from_is_err_and}
use Rattle.exb_model.specs.Ports.{below}
use Rattle.exb_shelf.proofs.IdLemmas.{opens_none}
use Rattle.exb_shelf.specs.Shelf.{IsReadingOf}
use Rattle.exb_inputs.specs.declared.captures.CheckedCapture.{CheckedCapture}
use Rattle.exb_inputs.specs.declared.fault.Fault.TheVariants.{Memory}
use Rattle.exb_inputs.specs.CaptureChecks.{HasFault, HasFaultNamed, IsGood, IsGoodNamed, IsToldOf, most_bytes}
use Rattle.exb_inputs.specs.Inputs.{name_of, is_named}
use Rattle.exb_inputs.specs.ShelfEffects.{OpensNew, ReadsBelow}
use Rattle.exb_inputs.proofs.UniqueTopology.{none_or_some, some_once}
use Rattle.exb_inputs.proofs.LastChecked.{ends_at, opened_any, opened_higher, opened_next}
use Rattle.exb_inputs.proofs.CaptureFaults.{all_more}
use Rattle.exb_inputs.proofs.FilteredNumbers.{passed_none, passed_here, passed_not}
use Rattle.exb_inputs.proofs.CheckAnswers.{memory_flawless}
use Rattle.exb_inputs.proofs.ShelfEffects.{counts_as, counts_from, counts_memory, counts_ok, each_next, each_none}
use Rattle.exb_inputs.proofs.captures.check_captures.Goals as goal

pub checking-init : goal.checking-init
checking-init g c =
    let empty = c.new-checked.ensures.items in
    record {
      ports = ap (map (λ (x : CheckedCapture). x.port)) empty ∙ sym (passed_none (is_named c.args.names.now));
      small = search (rules, empty);
      in_time = search (rules, empty);
      told = λ t. search (rules, empty);
      good = λ t q low. absurd (omega arith);
      opened = opens_none _ _;
      files = λ n. refl;
      each = each_none c.args.names.now _;
      same = refl;
    }

pub checking-preserved-in_default : goal.checking-preserved-in_default
checking-preserved-in_default g c =
    let S = g.S.Shelf in
    let inv = c.checking.invariant in
    let p = c.checking.number in
    let names = c.args.names.now in
    let f = S.file c.args.shelf.now in
    let none : name_of names p ≡ None = ap (name_of names) (sym c.port_of-port.ensures) ∙ c.in_default.ensures.none in
    record {
      ports = inv.ports ∙ sym (ap (λ k. filter (is_named names) (below k)) (add-one p) ∙ passed_not (is_named names) p (ap is_some none));
      small = inv.small;
      in_time = inv.in_time;
      told = inv.told;
      good = λ t. below_more _ _ (inv.good t) (subst (λ (n : Option (List ℕ)). IsGoodNamed n f) (sym none) tt);
      opened = opened_higher names p (p + 1) _ _ (omega arith) inv.opened;
      files = inv.files;
      each = each_next (ReadsBelow names p) (ReadsBelow names p) names p _ _ _ inv.each inv.opened (opens_none _ _) (λ name some. absurd (none_or_some (name_of names p) name none some));
      same = inv.same;
    }

-- a capture has a fault
pub returns-in_err-one : goal.returns-in_err-one
returns-in_err-one g c =
    let S = g.S.Shelf in
    let inv = c.checking.invariant in
    let p = c.checking.number in
    let names = c.args.names.now in
    let f = S.file c.args.shelf.now in
    let name = c.in-Some.name.now in
    let x = c.in_err-one.field-0.0 in
    let stop = c.in_err-one.ensures in
    let is = c.port_of-port.ensures in
    let named : name_of names p ≡ Some name = ap (name_of names) (sym is) ∙ c.in-Some.ensures.found in
    let made = err_from_is_err_and c.from_residual.result c.from_residual.ensures.1 in
    rw (made.1, made.2) (record {
      checked = tt;
      good = λ t. tt;
      flaw = λ t. elim (stop.flaw t) [
        | inl flaw ↦ inl (
          p,
          record {
            port = omega arith;
            before = inv.good t;
            here =
                subst (λ (n : Option (List ℕ)). HasFaultNamed p n f x) (sym named)
                (subst (λ (o : Option (List ℕ)). HasFault p name o x) (inv.files name) (subst (λ (q : ℕ). HasFault q name (S.file c.checking.shelf name) x) is flaw));
          },
        )
        | inr other ↦ inr other
      ];
      causes = stop.causes;
      ends = ends_at S.tells names f p name _ _ _ x named inv.opened stop.opened inv.good (λ q flaw e. stop.own q flaw e ∙ is);
      each = tt;
      opened = opened_any names (p + 1) _ _ (opened_next names p name _ _ _ named inv.opened stop.opened);
      files = λ m. stop.files m ∙ inv.files m;
      faults = counts_from _ _ _ _ inv.same (counts_as x _ _ stop.faults);
    })

-- there is no memory for what was told of it
pub returns-then-is_err : goal.returns-then-is_err
returns-then-is_err g c =
    let S = g.S.Shelf in
    let inv = c.checking.invariant in
    let p = c.checking.number in
    let names = c.args.names.now in
    let name = c.in-Some.name.now in
    let one = c.in_ok-one.ensures in
    let named : name_of names p ≡ Some name = ap (name_of names) (sym c.port_of-port.ensures) ∙ c.in-Some.ensures.found in
    record {
      checked = tt;
      good = λ t. tt;
      flaw = λ t. inr (inr refl);
      causes = tt;
      ends = ends_at S.tells names (S.file c.args.shelf.now) p name _ _ _ Memory named inv.opened one.opened inv.good (λ q flaw e. absurd (memory_flawless q flaw e));
      each = tt;
      opened = opened_any names (p + 1) _ _ (opened_next names p name _ _ _ named inv.opened one.opened);
      files = λ m. one.files m ∙ inv.files m;
      faults = counts_memory _ _ (one.faults.once ∙ inv.same);
    }

pub checking-preserved : goal.checking-preserved
checking-preserved g c =
    let S = g.S.Shelf in
    let inv = c.checking.invariant in
    let p = c.checking.number in
    let names = c.args.names.now in
    let f = S.file c.args.shelf.now in
    let name = c.in-Some.name.now in
    let one : CheckedCapture = c.in_ok-one.one in
    let is = c.port_of-port.ensures in
    let named : name_of names p ≡ Some name = ap (name_of names) (sym is) ∙ c.in-Some.ensures.found in
    let port : one.port ≡ p = c.in_ok-one.ensures.port ∙ is in
    let good : S.tells → IsGood (f name) one.told = λ t. subst (λ (o : Option (List ℕ)). IsGood o one.told) (inv.files name) (c.in_ok-one.ensures.good t) in
    let pushed : c.push.new.self.items ≡ c.checking.checked.items ++ one ∷ [] = search rules in
    record {
      ports =
          ap (map (λ (x : CheckedCapture). x.port)) pushed ∙ map-append (λ (x : CheckedCapture). x.port) c.checking.checked.items (one ∷ [])
          ∙ ap (λ (qs : List ℕ). qs ++ one.port ∷ []) inv.ports ∙ ap (λ (q : ℕ). filter (is_named names) (below p) ++ q ∷ []) port
          ∙ sym (ap (λ k. filter (is_named names) (below k)) (add-one p) ∙ passed_here (is_named names) p (ap is_some named));
      small = all_more (λ (x : CheckedCapture). x.told.bytes ≤ most_bytes) _ _ one pushed inv.small c.in_ok-one.ensures.small;
      in_time = all_more (λ (x : CheckedCapture). IfSome x.told.first (λ first. first < 2 ^ 32 * 1_000_000_000)) _ _ one pushed inv.in_time c.in_ok-one.ensures.in_time;
      told = λ t. all_more (IsToldOf names f) _ _ one pushed (inv.told t) (name, ap (name_of names) port ∙ named, good t);
      good = λ t. below_more _ _ (inv.good t) (subst (λ (n : Option (List ℕ)). IsGoodNamed n f) (sym named) (one.told, good t));
      opened = opened_next names p name _ _ _ named inv.opened c.in_ok-one.ensures.opened;
      files = λ m. c.in_ok-one.ensures.files m ∙ inv.files m;
      each = each_next (ReadsBelow names p) (IsReadingOf name) names p _ _ _ inv.each inv.opened c.in_ok-one.ensures.opened
          (λ own is. subst (λ (n : List ℕ). OpensNew n (S.ids c.checking.shelf) (S.ids c.check_capture.new.shelf)) (some_once (name_of names p) name own named is) c.in_ok-one.ensures.scanned);
      same = c.in_ok-one.ensures.faults.once ∙ inv.same;
    }

-- all are good
pub returns : goal.returns
returns g c =
    let inv = c.checking.invariant in
    let names = c.args.names.now in
    let all : c.checking.number ≡ 4160 = omega (arith, c.checking-test.false, c.checking.auto.number-end) in
    record {
      checked = record {
        ports = inv.ports ∙ ap (λ n. filter (is_named names) (below n)) all;
        small = inv.small;
        in_time = inv.in_time;
        told = inv.told;
      };
      good = λ t q low. inv.good t q (omega (arith, low, all));
      flaw = λ t. tt;
      causes = tt;
      ends = tt;
      each = λ q name low. inv.each q name (omega (arith, low, all));
      opened = opened_any names c.checking.number _ _ inv.opened;
      files = inv.files;
      faults = counts_ok c.checking.checked _ _ inv.same;
    }
