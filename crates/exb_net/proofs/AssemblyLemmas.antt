-- The bridges of a net are made, one after another.
use Rattle.std.proofs.Common.{◌≡◌, ℕ, ◌+◌, ◌<◌, ◌++◌, List, [], ◌∷◌, length, get_or, drop, take, length-append, ap, sym, ◌∙◌, subst, arith, inl, inr}
use Rattle.std.specs.Prelude.{All, Some, remove, slice_get}
use Rattle.std.proofs.lemmas.Bool.{cases_eq}
use Rattle.std.proofs.lemmas.List.{drop_more, get_or-drop, take_more}
use Rattle.std.proofs.lemmas.Option.{none-some, same_Some, slice_get_within}
use Rattle.exb_model.specs.declared.setup.Setup.{Setup}
use Rattle.exb_model.specs.Setup.{IsValid, limits_of, shape_of}
use Rattle.exb_model.specs.Tree.{external_ports}
use Rattle.exb_world.specs.WorldContracts.{Network}
use Rattle.exb_bridge.specs.BridgeWorlds.{all_left}
use Rattle.exb_world_spec.specs.Runs.ReachedWorlds.{HasVid, beginning}
use Rattle.exb_net_spec.specs.declared.wires.NetSetup.{NetSetup}
use Rattle.exb_net_spec.specs.declared.wires.Wire.{Wire}
use Rattle.exb_net_spec.specs.Nets.{Net, IsNet}
use Rattle.exb_net.specs.declared.wired_ports.WiredPort.{WiredPort}
use Rattle.exb_net.specs.declared.net.Net.{Net as Bridges}
use Rattle.exb_net.specs.declared.node.Node.{Node}
use Rattle.exb_net.specs.WiredPorts.{ends_over}
use Rattle.exb_net.specs.NodeViews.{IsAt}
use Rattle.exb_net.specs.PairedLists.{AreEach}
use Rattle.exb_net.specs.Assembly.{AreFirst}
use Rattle.exb_net.specs.NetStates.{IsBegun, IsSetupOf, no_dones}
use Rattle.exb_net.specs.Nodes.{IsFirst}
use Rattle.exb_net.proofs.ListPlaces.{all_by, is_there, put_here, put_there}

-- ---- one more
module _ {V : Type 0} {X : V → Type 0} (wires : List Wire) (setups : List Setup) where
  pub none_first : (nodes : List (Node V X)) → nodes ≡ [] → AreFirst wires setups nodes
  none_first nodes e = record { each = λ b s x s_is x_is. absurd (none-some x (sym (ap (λ (zs : List (Node V X)). slice_get zs b) e) ∙ x_is)) }

  pub one_first : (nodes : List (Node V X)) (x : Node V X) (s : Setup) → slice_get setups (length nodes) ≡ Some s → IsFirst wires (length nodes) s x.world x.ends.items → AreFirst wires setups nodes → AreFirst wires setups (nodes ++ x ∷ [])
  one_first nodes x s here first before =
      record {
        each = λ b r y r_is y_is. elim (cases_eq b (length nodes)) [
          | inl e ↦
              let at : slice_get (nodes ++ x ∷ []) (length nodes) ≡ Some y = subst (λ (z : ℕ). slice_get (nodes ++ x ∷ []) z ≡ Some y) e y_is in
              let same : x ≡ y = same_Some x y (sym (put_here nodes x) ∙ at) in
              let of : s ≡ r = same_Some s r (sym here ∙ subst (λ (z : ℕ). slice_get setups z ≡ Some r) e r_is) in
              subst (λ (z : ℕ). IsFirst wires z r y.world y.ends.items) (sym e)
              (subst (λ (z : Setup). IsFirst wires (length nodes) z y.world y.ends.items) of (subst (λ (z : Node V X). IsFirst wires (length nodes) s z.world z.ends.items) same first))
          | inr ne ↦
              let low = slice_get_within (nodes ++ x ∷ []) b y y_is in
              let long = length-append nodes (x ∷ []) in
              let below : b < length nodes = omega (arith, low, long, ne) in
              before.each b r y r_is (sym (put_there nodes x b below) ∙ y_is)
        ];
      }

-- a relation of two lists that grow together
module _ {A B : Type 0} (R : ℕ → A → B → Type 0) where
  pub no_pairs : (ys : List B) → ys ≡ [] → AreEach R [] ys
  no_pairs ys e = record { long = ap (λ (zs : List B). length zs) e; each = λ k x y x_is. absurd (none-some x x_is) }

  pub one_pair : (xs : List A) (ys : List B) (x : A) (y : B) → R (length ys) x y → AreEach R xs ys → AreEach R (xs ++ x ∷ []) (ys ++ y ∷ [])
  one_pair xs ys x y r a =
      record {
        long = length-append ys (y ∷ []) ∙ (ap (λ (n : ℕ). n + 1) a.long ∙ sym (length-append xs (x ∷ [])));
        each = λ k u v u_is v_is. elim (cases_eq k (length ys)) [
          | inl e ↦
              let u_at : slice_get (xs ++ x ∷ []) (length xs) ≡ Some u = subst (λ (z : ℕ). slice_get (xs ++ x ∷ []) z ≡ Some u) (e ∙ a.long) u_is in
              let v_at : slice_get (ys ++ y ∷ []) (length ys) ≡ Some v = subst (λ (z : ℕ). slice_get (ys ++ y ∷ []) z ≡ Some v) e v_is in
              let u_same : x ≡ u = same_Some x u (sym (put_here xs x) ∙ u_at) in
              let v_same : y ≡ v = same_Some y v (sym (put_here ys y) ∙ v_at) in
              subst (λ (z : ℕ). R z u v) (sym e) (subst (λ (z : B). R (length ys) u z) v_same (subst (λ (z : A). R (length ys) z y) u_same r))
          | inr ne ↦
              let low = slice_get_within (ys ++ y ∷ []) k v v_is in
              let long = length-append ys (y ∷ []) in
              let same = a.long in
              let below : k < length ys = omega (arith, low, long, ne) in
              let below_x : k < length xs = omega (arith, below, same) in
              a.each k u v (sym (put_there xs x k below_x) ∙ u_is) (sym (put_there ys y k below) ∙ v_is)
        ];
      }

-- ---- what is taken from the front, one after another
module _ {A : Type 0} (xs : List A) (i : ℕ) (low : i < length xs) where
  pub next_is : (ys : List A) (x : A) → ys ≡ drop i xs → x ≡ get_or ys 0 x → x ≡ get_or xs i x
  next_is ys x e is = is ∙ (ap (λ (zs : List A). get_or zs 0 x) e ∙ (get_or-drop i xs 0 x ∙ ap (λ (k : ℕ). get_or xs k x) (same i)))
    where
      same : (k : ℕ) → k + 0 ≡ k
      same k = omega arith

  pub rest_is : (ys zs : List A) (x : A) → ys ≡ drop i xs → zs ≡ remove ys 0 → zs ≡ drop (i + 1) xs
  rest_is ys zs x e r = r ∙ ap (λ (ws : List A). remove ws 0) (e ∙ drop_more xs i x low)

  pub front_is : (x : A) → x ≡ get_or xs i x → take i xs ++ x ∷ [] ≡ take (i + 1) xs
  front_is x is = ap (λ (z : A). take i xs ++ z ∷ []) is ∙ sym (take_more xs i x low)

-- ---- all setups of a net are valid
pub all_valid : (n : Net) (s : NetSetup) → IsSetupOf n s → IsNet n → All IsValid s.setups
all_valid n s of net =
    all_by IsValid s.setups (λ b x is.
    (let low = slice_get_within s.setups b x is in
    let count = of.count in
    subst IsValid (of.setups b x is) (net.setups b (omega (arith, low, count)))))

-- ---- all are made
pub begun_so : {V : Type 0} {X : V → Type 0} (n : Net) (s : NetSetup) (made : Bridges V X) → IsSetupOf n s → IsNet n → length made.nodes.items ≡ length s.setups → AreFirst s.wires s.setups made.nodes.items → made.came ≡ 0 → made.queue.items ≡ [] →
    made.wires ≡ length s.wires → IsBegun n made
begun_so n s made of net long all came queue wires =
    record {
      net = net;
      vids = λ b low.
          (let count = of.count in
          let r = is_there s.setups b (omega (arith, low, count)) in
          let x = is_there made.nodes.items b (omega (arith, low, count, long)) in
          subst (λ (z : Setup). All HasVid z.start) (sym (of.setups b r.0 r.1)) (all.each b r.0 x.0 r.1 x.1).vids);
      holds = record {
        count = long ∙ sym of.count;
        at = λ b x x_is.
            (let low = slice_get_within made.nodes.items b x x_is in
            let r = is_there s.setups b (omega (arith, low, long)) in
            first_at b r.0 x.world x.ends.items (of.setups b r.0 r.1) (all.each b r.0 x r.1 x_is));
      };
      none = came;
      queue = queue;
      wires = wires ∙ ap (λ (zs : List Wire). length zs) (sym of.wires);
    }
  where
    first_at : (b : ℕ) (r : Setup) (w : Network) (wired : List WiredPort) → (n.input b).setup ≡ r → IsFirst s.wires b r w wired → IsAt n b (no_dones n b) (no_dones n b) w wired
    first_at b r w wired e f =
        record {
          tree = f.tree ∙ ap shape_of (sym e);
          limits = f.limits ∙ ap limits_of (sym e);
          world = f.world ∙ ap beginning (sym e);
          events = sym f.quiet.events;
          passed = sym f.quiet.passed;
          left = sym (ap all_left f.quiet.left);
          ends = f.ends ∙ (ap (λ (ws : List Wire). ends_over ws b (λ q. 1) (external_ports (shape_of r))) (sym of.wires) ∙ ap (λ (z : Setup). ends_over n.wires b (λ q. 1) (external_ports (shape_of z))) (sym e));
          awake = f.awake;
        }
