use Rattle.std.proofs.Common.{◌∙◌, ap, map, string_bytes}
use Rattle.std.proofs.lemmas.Result.{IfErr-weaker, IfOk-weaker}
use Rattle.clap.specs.Simple.{App}
use Rattle.clap.specs.Takes.{takes}
use Rattle.command_words.proofs.Accepted.{has_read, is_read, options_parts}
use Rattle.command_words.proofs.matches.read.Goals as goal

pub returns : goal.returns
returns c =
    let words = map string_bytes c.args.words.now in
    let parts = options_parts c.args.options.now words c.requires in
    let read = is_read c.args.name.now c.args.options.now words parts.0 parts.1 in
    let is = c.in_ok-command.ensures in
    let parse = c.try_get_matches_from in
    record {
      read = IfOk-weaker parse.result _ _ (λ m has. has_read c.args.name.now c.args.options.now words _ m read is has) parse.ensures.matches;
      memory = IfErr-weaker parse.result _ _ (λ e passes. passes (ap (λ (a : App). takes a words) is ∙ read.passes)) parse.ensures.passes;
    }
