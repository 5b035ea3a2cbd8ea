use Rattle.case_form.proofs.TraceLaws.{pdu_found, pdu_only, data_line_found, data_line_only}
use Rattle.case_form.proofs.laws.trace_lines_are_exact.Goals as goal

pub returns-clause-sent : goal.returns-clause-sent
returns-clause-sent c = λ line station text. (pdu_found line station text, pdu_only line station text)

pub returns-clause-notice : goal.returns-clause-notice
returns-clause-notice c = λ line imsi. (data_line_found line imsi, data_line_only line imsi)
