-- The hearers of a frame that passed.
use Rattle.std.proofs.Common.{◌≡◌, ℕ, ◌&&◌, true, not}
use Rattle.std.proofs.lemmas.Bool.{and_parts}
use Rattle.exb_model.specs.declared.vlan.Kind.{Kind}
use Rattle.exb_model.specs.declared.vlan.Kind.TheVariants.{Tagged, Untagged}
use Rattle.exb_model.specs.Ports.{port_in}
use Rattle.exb_model.specs.Refusals.{is_kind}
use Rattle.exb_model.specs.Tree.{Shape, is_external}
use Rattle.exb_model.specs.Numbers.{Numbers}
use Rattle.exb_config.specs.Tables.{bridge_of}
use Rattle.exb_relay.specs.declared.hearers.Hearers.{Hearers}
use Rattle.exb_relay.specs.declared.source.Source.{Source}
use Rattle.exb_relay.specs.Spaces.{AreExternal}
use Rattle.exb_relay.specs.SendsBySource.{AreMembers, is_hearer, member_in, member_list}

module _ (h : Hearers) (p v : ℕ) (members : AreMembers (bridge_of h.config.now) v h.members.now) (isolated : h.isolated ≡ ((bridge_of h.config.now).rule p).isolated) where
  -- they are the members that hear the frame's port
  hearer_is : (kind : Kind) (q : ℕ) → is_hearer h kind q ≡ member_in (bridge_of h.config.now) p v (port_in h.chosen.now) kind q
  hearer_is kind q = λ i.
      ((bridge_of h.config.now).present q && port_in h.chosen.now q && is_kind kind (members q i)) && not (isolated i && ((bridge_of h.config.now).rule q).isolated)

  pub hearers_are : (t : Shape) (m : Numbers) (s : Source) → member_list t m s (is_hearer h Tagged) (is_hearer h Untagged)
      ≡ member_list t m s (member_in (bridge_of h.config.now) p v (port_in h.chosen.now) Tagged) (member_in (bridge_of h.config.now) p v (port_in h.chosen.now) Untagged)
  hearers_are t m s = λ i. member_list t m s (λ q. hearer_is Tagged q i) (λ q. hearer_is Untagged q i)

-- each is an external port
pub hearer_external : (t : Shape) (h : Hearers) → AreExternal t (bridge_of h.config.now) → (kind : Kind) (q : ℕ) → is_hearer h kind q ≡ true → is_external t q ≡ true
hearer_external t h external kind q is =
    external q (and_parts _ _ (and_parts _ _ (and_parts _ _ is).0).0).0
