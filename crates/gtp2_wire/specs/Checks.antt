-- What the program checks of an element: that it is of the form of its row.
use Rattle.std.specs.Prelude.{Bool, List, Result}
use Rattle.echo_base.specs.declared.refusal.Refusal.{Refusal}
use Rattle.tlv_elements.specs.Element.{Element, Rule}
use Rattle.tlv_elements.specs.Grammar.{check_value, check_group, rules}
use Rattle.gtp2_ies.specs.Frame.{frame_in, gtp}
use Rattle.gtp2_ies.specs.Values.{exactly, cause, ebi, fteid, address, no_address, rates, qos, apn, imsi}
use Rattle.gtp2_wire.specs.declared.content.Content.{Content}
use Rattle.gtp2_wire.specs.declared.content.Content.TheVariants as content
use Rattle.gtp2_wire.specs.declared.content.Member.{Member}
use Rattle.gtp2_wire.specs.declared.content.Member.TheVariants as member
use Rattle.gtp2_wire.specs.declared.content.Bearer.{Bearer}
use Rattle.gtp2_wire.specs.declared.content.Bearer.TheVariants as bearer
use Rattle.gtp2_wire.specs.Tables.{create_bearer, created_bearer, modify_bearer, modified_bearer}

abbrev pub member_check : Member → Element → Result (Unit {0}) Refusal
member_check member.Ebi = check_value gtp ebi
member_check member.Qos = check_value gtp qos
member_check member.Cause = check_value gtp cause
member_check (member.Fteid whose) = check_value gtp (fteid whose)

abbrev pub bearer_rules : Bearer → Bool → List Rule
bearer_rules bearer.Create all = rules frame_in gtp create_bearer
bearer_rules bearer.Created all = rules frame_in gtp (created_bearer all)
bearer_rules bearer.Modify all = rules frame_in gtp modify_bearer
bearer_rules bearer.Modified all = rules frame_in gtp (modified_bearer all)

abbrev pub bearer_check : Bearer → Bool → Element → Result (Unit {0}) Refusal
bearer_check which all = check_group gtp (bearer_rules which all)

abbrev pub content_check : Content → Element → Result (Unit {0}) Refusal
content_check content.Imsi = check_value gtp imsi
content_check (content.Exactly wanted) = check_value gtp (exactly wanted)
content_check (content.Fteid whose) = check_value gtp (fteid whose)
content_check content.Apn = check_value gtp apn
content_check content.NoAddress = check_value gtp no_address
content_check content.Address = check_value gtp address
content_check content.Rates = check_value gtp rates
content_check content.Cause = check_value gtp cause
content_check content.Ebi = check_value gtp ebi
content_check (content.Bearer which all) = bearer_check which all
