-- Wires that were read are those of a valid net.
use Rattle.std.proofs.Common.{◌≡◌, ◌≢◌, ℕ, suc, ◌+◌, ◌<◌, ◌==◌, ◌||◌, ◌++◌, Bool, true, false, not, List, [], ◌∷◌, Option, Some, None, Result, Ok, Err, All, length, get_or, refl, ap, sym, ◌∙◌, subst, arith, codes, inl, inr}
use Rattle.std.specs.Prelude.{nat_lt}
use Rattle.std.specs.List.{AllPairs}
use Rattle.std.specs.Str.{bytes_eq}
use Rattle.std.proofs.lemmas.Bool.{cases_Bool, eq-eqb, and_from, or_parts, false≢true}
use Rattle.std.proofs.lemmas.List.{append_assoc, append-nil}
use Rattle.std.proofs.lemmas.List.Elements.{All-push}
use Rattle.std.proofs.lemmas.List.Quantifiers.{all_pairs_push}
use Rattle.std.proofs.lemmas.List.Folds.{list_any_at}
use Rattle.exb_model.specs.Tree.{is_external}
use Rattle.exb_model.specs.Setup.{IsValid, shape_of}
use Rattle.exb_toml_keys.specs.Faults.{Refusal, ◌>>=◌}
use Rattle.exb_toml_keys.specs.declared.faults.KeyFault.TheVariants as fault
use Rattle.exb_toml_keys.proofs.PassedSteps.{went}
use Rattle.exb_net_spec.specs.declared.wires.End.{End}
use Rattle.exb_net_spec.specs.declared.wires.Wire.{Wire}
use Rattle.exb_net_spec.specs.Nets.{Net, IsNet, IsEnd, AreJoined, HaveNoLoop, ends_of, is_at}
use Rattle.exb_topology.specs.ElementChecks.{each_ok, refuse}
use Rattle.exb_topology.proofs.ElementChecks.{refuse_ok}
use Rattle.exb_net_file.specs.declared.end_names.EndName.{EndName}
use Rattle.exb_net_file.specs.declared.elements.NetWire.{NetWire}
use Rattle.exb_net_file.specs.declared.members.NetMember.{NetMember}
use Rattle.exb_net_file.specs.Members.{tree_in, ports_together, files_ok}
use Rattle.exb_net_file.specs.Wires.{member_from, is_taken, has_capture, port_free, end_of_member, end_in, are_joined, wire_key, wire_in, wires_from, wires_of}
use Rattle.std.specs.Prelude.{IfOk}
use Rattle.exb_toml_keys.specs.declared.faults.TopoFault.{TopoFault}
use Rattle.exb_toml_keys.specs.Faults.{Gives}
use Rattle.exb_net_file.specs.Soundness.{AreValid, IsMadeOf, MakesNets}
use Rattle.exb_net_file.proofs.LoopTest.{joined_tells}

ok_same : {A : Type 0} (x y : A) → ◌≡◌ {A = Result A Refusal} (Ok x) (Ok y) → x ≡ y
ok_same x y e = cc

-- ---- bridges by name
-- it is one of them, by its place
record IsMember (ms : List NetMember) (i b : ℕ) (m : NetMember) : Type 0 where
  place : ℕ
  counted : b ≡ i + place
  here : place < length ms
  is : (d : NetMember) → get_or ms place d ≡ m

number_or : ℕ → Option (ℕ × NetMember) → ℕ
number_or n None = n
number_or n (Some p) = p.0

member_or : NetMember → Option (ℕ × NetMember) → NetMember
member_or m None = m
member_or m (Some p) = p.1

member_is : (i : ℕ) (name : List ℕ) (ms : List NetMember) (p : ℕ × NetMember) → member_from i name ms ≡ Some p → IsMember ms i p.0 p.1
unfolding member_from number_or member_or
member_is i name [] p e = absurd (cc)
member_is i name (k ∷ ms) p e =
    elim (cases_Bool (bytes_eq k.name name)) [
      | inl z ↦
          let same = rw z at e in
          let first : i ≡ p.0 = ap (number_or i) same in
          record { place = 0; counted = omega (arith, first); here = omega arith; is = λ d. ap (member_or k) same }
      | inr z ↦
          let rest = member_is (i + 1) name ms p (rw z at e) in
          record { place = suc rest.place; counted = omega (arith, rest.counted); here = omega (arith, rest.here); is = λ d. rest.is d }
    ]

-- ---- ends
-- an external port of one of the bridges, which has no capture
record IsEndOf (ms : List NetMember) (e : End) : Type 0 where
  here : e.bridge < length ms
  port : (d : NetMember) → is_external (tree_in (get_or ms e.bridge d)) e.port ≡ true
  free : (d : NetMember) → has_capture (get_or ms e.bridge d) e.port ≡ false

record IsNewEnd (ms : List NetMember) (taken : List End) (e : End) : Type 0 where
  end : IsEndOf ms e
  new : is_taken taken e.bridge e.port ≡ false

record IsFree (m : NetMember) (taken : List End) (e : End) : Type 0 where
  port : is_external (tree_in m) e.port ≡ true
  new : is_taken taken e.bridge e.port ≡ false
  free : has_capture m e.port ≡ false

not_false : (b : Bool) → not b ≡ false → b ≡ true
not_false true e = refl
not_false false e = absurd (false≢true (sym e))

free_is : (m : NetMember) (taken : List End) (key : List ℕ) (e : End) (u : Unit {0}) → port_free m taken key e ≡ Ok u → IsFree m taken e
unfolding port_free
free_is m taken key e u h =
    let a = went (refuse (not (is_external (tree_in m) e.port)) fault.UnknownPort key) (λ _. refuse (is_taken taken e.bridge e.port || has_capture m e.port) fault.SharedPort key) u h in
    let apart = or_parts (is_taken taken e.bridge e.port) (has_capture m e.port) (refuse_ok (is_taken taken e.bridge e.port || has_capture m e.port) fault.SharedPort key a.rest) in
    record { port = not_false (is_external (tree_in m) e.port) (refuse_ok (not (is_external (tree_in m) e.port)) fault.UnknownPort key a.first); new = apart.0; free = apart.1 }

end_is : (ms : List NetMember) (taken : List End) (key : List ℕ) (w : EndName) (e : End) → end_in ms taken key w ≡ Ok e → IsNewEnd ms taken e
unfolding end_in
end_is ms taken key w e h = by_member (member_from 0 w.bridge ms) refl h
  where
    by_member : (o : Option (ℕ × NetMember)) → member_from 0 w.bridge ms ≡ o → end_of_member taken key w.port o ≡ Ok e → IsNewEnd ms taken e
    by_member None is k = absurd (cc)
    by_member (Some (b, m)) is k =
        let made : End = record { bridge = b; port = w.port } in
        let a = went (port_free m taken key made) (λ _. Ok made) e k in
        let fine = free_is m taken key made a.passed a.first in
        let found = member_is 0 w.bridge ms (b, m) is in
        let at : b ≡ found.place = omega (arith, found.counted) in
        let same : (d : NetMember) → get_or ms b d ≡ m = λ d. ap (λ (k : ℕ). get_or ms k d) at ∙ found.is d in
        subst (λ (x : End). IsNewEnd ms taken x) (ok_same made e a.rest) (record {
          end = record {
            here = omega (arith, at, found.here);
            port = λ d. ap (λ (x : NetMember). is_external (tree_in x) w.port) (same d) ∙ fine.port;
            free = λ d. ap (λ (x : NetMember). has_capture x w.port) (same d) ∙ fine.free;
          };
          new = fine.new;
        })

-- none of them is that one
apart_from : (taken : List End) (e : End) → is_taken taken e.bridge e.port ≡ false → (k : ℕ) (d : End) → k < length taken → get_or taken k d ≢ e
apart_from taken e new k d lt same =
    false≢true (sym new ∙ list_any_at (λ f. is_at f e.bridge e.port) taken k d lt (subst (λ (f : End). is_at f e.bridge e.port ≡ true) (sym same) (and_from (e.bridge == e.bridge) (e.port == e.port) (eq-eqb e.bridge e.bridge refl) (eq-eqb e.port e.port refl))))

-- ---- wires
record Fine (ms : List NetMember) (xs : List Wire) : Type 0 where
  ends : All (IsEndOf ms) (ends_of xs)
  apart : AllPairs (λ e f. e ≢ f) (ends_of xs)
  loops : HaveNoLoop [] xs

pub ends_push : (xs : List Wire) (x : Wire) → ends_of (xs ++ x ∷ []) ≡ (ends_of xs ++ x.a ∷ []) ++ x.b ∷ []
ends_push [] x = refl
ends_push (y ∷ xs) x = ap (λ (es : List End). y.a ∷ y.b ∷ es) (ends_push xs x)

no_loop_push : (before xs : List Wire) (x : Wire) → HaveNoLoop before xs → (AreJoined (before ++ xs) x.a.bridge x.b.bridge → ⊥) → HaveNoLoop before (xs ++ x ∷ [])
no_loop_push before [] x none not_joined = ((λ j. not_joined (subst (λ (ws : List Wire). AreJoined ws x.a.bridge x.b.bridge) (sym (append-nil before)) j)), tt)
no_loop_push before (y ∷ xs) x none not_joined =
    (none.0, no_loop_push (before ++ y ∷ []) xs x none.1 (λ j. not_joined (subst (λ (ws : List Wire). AreJoined ws x.a.bridge x.b.bridge) (append_assoc before (y ∷ []) xs) j)))

fine_push : (ms : List NetMember) (before : List Wire) (i : ℕ) (w : NetWire) (x : Wire) → Fine ms before → wire_in ms before i w ≡ Ok x → Fine ms (before ++ x ∷ [])
unfolding wire_in
fine_push ms before i w x f h =
    let Done : Type 0 = Result Wire Refusal in
    let last : End → End → Unit {0} → Done = λ a b _. Ok (record { a = a; b = b }) in
    let two : End → End → Done = λ a b. refuse (are_joined before a.bridge b.bridge) fault.Loop (wire_key i (codes "a")) >>= last a b in
    let one : End → Done = λ a. end_in ms (ends_of before ++ a ∷ []) (wire_key i (codes "b")) w.b >>= two a in
    let a = went (end_in ms (ends_of before) (wire_key i (codes "a")) w.a) one x h in
    let b = went (end_in ms (ends_of before ++ a.passed ∷ []) (wire_key i (codes "b")) w.b) (two a.passed) x a.rest in
    let c = went (refuse (are_joined before a.passed.bridge b.passed.bridge) fault.Loop (wire_key i (codes "a"))) (last a.passed b.passed) x b.rest in
    let made : Wire = record { a = a.passed; b = b.passed } in
    let is_a = end_is ms (ends_of before) (wire_key i (codes "a")) w.a a.passed a.first in
    let is_b = end_is ms (ends_of before ++ a.passed ∷ []) (wire_key i (codes "b")) w.b b.passed b.first in
    let apart : are_joined before a.passed.bridge b.passed.bridge ≡ false = refuse_ok (are_joined before a.passed.bridge b.passed.bridge) fault.Loop (wire_key i (codes "a")) (unit_is c.passed c.first) in
    let push = ends_push before made in
    subst (λ (y : Wire). Fine ms (before ++ y ∷ [])) (ok_same made x c.rest) (record {
      ends = subst (All (IsEndOf ms)) (sym push) (All-push (IsEndOf ms) (ends_of before ++ a.passed ∷ []) b.passed (All-push (IsEndOf ms) (ends_of before) a.passed f.ends is_a.end) is_b.end);
      apart = subst (AllPairs (λ e g. e ≢ g)) (sym push) (all_pairs_push (λ e g. e ≢ g) (ends_of before ++ a.passed ∷ []) b.passed
          (all_pairs_push (λ e g. e ≢ g) (ends_of before) a.passed f.apart (apart_from (ends_of before) a.passed is_a.new))
          (apart_from (ends_of before ++ a.passed ∷ []) b.passed is_b.new));
      loops = no_loop_push [] before made f.loops (λ j. false≢true (sym apart ∙ joined_tells before a.passed.bridge b.passed.bridge j));
    })
  where
    unit_is : (u : Unit {0}) {r : Result (Unit {0}) Refusal} → r ≡ Ok u → r ≡ Ok tt
    unit_is u e = e

fine_from : (ms : List NetMember) (before : List Wire) (i : ℕ) (ws : List NetWire) (xs : List Wire) → Fine ms before → wires_from ms before i ws ≡ Ok xs → Fine ms xs
unfolding wires_from
fine_from ms before i [] xs f h = subst (Fine ms) (ok_same before xs h) f
fine_from ms before i (w ∷ ws) xs f h =
    let a = went (wire_in ms before i w) (λ x. wires_from ms (before ++ x ∷ []) (i + 1) ws) xs h in
    fine_from ms (before ++ a.passed ∷ []) (i + 1) ws xs (fine_push ms before i w a.passed f a.first) a.rest

none_fine : (ms : List NetMember) → Fine ms []
none_fine ms = record { ends = λ k d lt. absurd (omega arith); apart = λ i j d lt within. absurd (omega arith); loops = tt }

-- the wires of a net, past the ports and the files
pub record Passed (ms : List NetMember) (ws : List NetWire) (xs : List Wire) : Type 0 where
  pub few : refuse (nat_lt 4160 (ports_together ms)) fault.Range (codes "bridge") ≡ Ok tt
  pub wires : wires_from ms [] 0 ws ≡ Ok xs

pub past : (ms : List NetMember) (ws : List NetWire) (xs : List Wire) → wires_of ms ws ≡ Ok xs → Passed ms ws xs
unfolding wires_of
past ms ws xs h =
    let one : Unit {0} → Result (List Wire) Refusal = λ _. each_ok (files_ok ms) ms 0 ms >>= λ _. wires_from ms [] 0 ws in
    let a = went (refuse (nat_lt 4160 (ports_together ms)) fault.Range (codes "bridge")) one xs h in
    let b = went (each_ok (files_ok ms) ms 0 ms) (λ _. wires_from ms [] 0 ws) xs a.rest in
    record { few = a.first; wires = b.rest }

-- ---- the net
pub some_member : (ms : List NetMember) (b : ℕ) → b < length ms → NetMember
some_member [] b lt = absurd (omega arith)
some_member (m ∷ ms) b lt = m

module _ (ms : List NetMember) (xs : List Wire) (n : Net) (valid : AreValid ms) (made : IsMadeOf ms xs n) where
  setup_valid : (b : ℕ) → b < n.count → IsValid (n.input b).setup
  setup_valid b lt =
      let here : b < length ms = omega (arith, lt, made.count) in
      let d = some_member ms b here in
      subst IsValid (sym (made.inputs b d here).setup) (valid b d here)

  end_valid : (e : End) → IsEndOf ms e → IsEnd n e
  end_valid e k =
      let d = some_member ms e.bridge k.here in
      let i = made.inputs e.bridge d k.here in
      record {
        bridge = omega (arith, k.here, made.count);
        port = ap (λ s. is_external (shape_of s) e.port) i.setup ∙ k.port d;
        free = i.free e.port (k.free d);
      }

  net_valid : Fine ms xs → IsNet n
  net_valid f =
      record {
        setups = setup_valid;
        ends = subst (λ (ws : List Wire). All (IsEnd n) (ends_of ws)) (sym made.wires) (λ k d lt. end_valid (get_or (ends_of xs) k d) (f.ends k d lt));
        apart = subst (λ (ws : List Wire). AllPairs (λ e g. e ≢ g) (ends_of ws)) (sym made.wires) f.apart;
        loops = subst (HaveNoLoop []) (sym made.wires) f.loops;
      }

pub wires_make_nets : (ms : List NetMember) (ws : List NetWire) (xs : List Wire) (n : Net) → AreValid ms → wires_of ms ws ≡ Ok xs → IsMadeOf ms xs n → IsNet n
wires_make_nets ms ws xs n valid h made = net_valid ms xs n valid made (fine_from ms [] 0 ws xs (none_fine ms) (past ms ws xs h).wires)

pub makes_nets : (ms : List NetMember) (ws : List NetWire) (r : Result (List Wire) TopoFault) → AreValid ms → Gives r (wires_of ms ws) → IfOk r (MakesNets ms)
makes_nets ms ws (Ok xs) valid h = record { valid = λ n made. wires_make_nets ms ws xs n valid h made }
makes_nets ms ws (Err e) valid h = tt
