use Rattle.std.proofs.Common.{◌∙◌, ap, cond, ◌==◌, ℕ}
use Rattle.std.specs.Prelude.{Some}
use Rattle.std.proofs.lemmas.Result.{on_ok_weaker}
use Rattle.exb_model.specs.Configuration.{kind_in}
use Rattle.exb_config.specs.Rows.{member_of}
use Rattle.exb_config.proofs.Changes.{members_changed, one_member}
use Rattle.exb_config.specs.Tables.{Tables, bridge_of}
use Rattle.exb_config.proofs.config.Config.set_member.Goals as goal

pub returns-clause-ok : goal.returns-clause-ok
unfolding bridge_of
returns-clause-ok c =
    let t : Tables = record { present = c.self.inside.present; vlans = c.self.inside.vlans; rules = c.self.inside.rules; statics = c.self.inside.statics } in
    let kinds = λ (q : ℕ). c.with-members.ensures q ∙ ap (cond (q == c.args.port) (Some c.args.kind)) (c.members.ensures q) in
    on_ok_weaker c.put.result (λ e. rw (← c.self.view_is) (members_changed t c.put.new.self _ (λ w q. e w q ∙ one_member (member_of t.vlans) c.args.vid c.args.port (Some c.args.kind) (λ q. kind_in c.with-members.result.tagged c.with-members.result.untagged q) kinds w q))) c.put.ensures.ok
