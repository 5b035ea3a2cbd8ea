-- What the program checks of an AVP: that it is of the form of its row.
use Rattle.std.specs.Prelude.{Result}
use Rattle.echo_base.specs.declared.refusal.Refusal.{Refusal}
use Rattle.tlv_elements.specs.Element.{Element}
use Rattle.tlv_elements.specs.Grammar.{check_value, check_group, rules}
use Rattle.dia_avps.specs.Frame.{frame_in, dia}
use Rattle.dia_avps.specs.Values.{session, unsigned, plmn, imsi}
use Rattle.dia_avps.specs.Groups.{authentication_info, subscription_data}
use Rattle.dia_wire.specs.declared.content.Content.{Content}
use Rattle.dia_wire.specs.declared.content.Content.TheVariants as content

abbrev pub content_check : Content → Element → Result (Unit {0}) Refusal
content_check content.Session = check_value dia session
content_check content.Imsi = check_value dia imsi
content_check content.Plmn = check_value dia plmn
content_check content.Unsigned = check_value dia unsigned
content_check content.AuthenticationInfo = check_group dia (rules frame_in dia authentication_info)
content_check content.SubscriptionData = check_group dia (rules frame_in dia subscription_data)
