use Rattle.std.proofs.Common.{rules, arith, ◌≡◌, true, List, ◌∙◌, ap, length, subst}
use Rattle.std.proofs.lemmas.Grind.{common_steps}
use Rattle.std.specs.BTreeMap.{get_by_text}
use Rattle.c_ir.specs.Numbers.{count}
use Rattle.c_ir.specs.declared.ty.IntType.{IntType}
use Rattle.c_rules.specs.Fits.{is_arg}
use Rattle.c_typing.proofs.Args.{args_none, args_push, formals_push, anywhere_ok, sited_none, sited_push}
use Rattle.c_typing.proofs.Rows.{sites_push}
use Rattle.c_typing.proofs.expression.+walk.Goals as goal

pub args-loop-arg-init : goal.args-loop-arg-init
args-loop-arg-init t c = record {
  value = first_of (search rules, grind (arith, common_steps));
  first = first_of (search rules, grind (arith, common_steps));
  room = first_of (search rules, grind (arith, common_steps));
  nodes = first_of (search rules, grind (arith, common_steps));
  numbered = first_of (search rules, grind (arith, common_steps));
  formed = λ layout fits. args_none layout _ _ (search rules);
  formals = first_of (search rules, grind (arith, common_steps));
  counted = first_of (search rules, grind (arith, common_steps));
  grows = λ infos ext. ext;
  sited = λ infos ext. sited_none infos _ _ (search rules);
}

pub args-loop-arg-preserved : goal.args-loop-arg-preserved
args-loop-arg-preserved t c = record {
  value = first_of (search rules, grind (arith, common_steps));
  first = first_of (search rules, grind (arith, common_steps));
  room = first_of (search rules, grind (arith, common_steps));
  nodes = first_of (search rules, grind (arith, common_steps));
  numbered =
      rw c.in_ok-push.ensures.ok (sites_push c.loop-arg.done c.in_ok-formal.field-0 _ _ c.loop-arg.invariant.numbered
      ∙ ap (count (length c.loop-arg.found.sites)) c.in_ok-formal.ensures.numbered ∙ c.in_ok-e.ensures.numbered);
  formed = λ layout fits.
      rw c.in_ok-push.ensures.ok (args_push layout _ c.loop-arg.done c.in_ok-formal.field-0 (c.loop-arg.invariant.formed layout fits)
      (subst (λ (tys : List IntType). is_arg layout tys c.in_ok-formal.field-0 ≡ true) c.loop-arg.invariant.formals
      (c.in_ok-formal.ensures.formed layout (c.in_ok-e.ensures.formed layout fits))));
  formals =
      formals_push _ c.loop-arg.left.now _ c.loop-arg.done _ c.in_ok-formal.field-0 c.after_first-left.ensures c.loop-arg.invariant.formals c.in_ok-push.ensures.ok;
  counted = first_of (search rules, grind (arith, common_steps));
  grows = λ infos ext. c.loop-arg.invariant.grows infos (c.in_ok-e.ensures.grows infos ext);
  sited = λ infos ext.
      rw c.in_ok-push.ensures.ok (sited_push infos _ c.loop-arg.done c.in_ok-formal.field-0
      (c.loop-arg.invariant.sited infos (c.in_ok-e.ensures.grows infos ext))
      (c.in_ok-formal.ensures.sited infos _ (c.in_ok-e.ensures.sited infos ext)));
}

pub cast_value-returns-in-Some-Void-clause-formed : goal.cast_value-returns-in-Some-Void-clause-formed
cast_value-returns-in-Some-Void-clause-formed t c =
    anywhere_ok (get_by_text c.args.names.now) c.args.place c.value-in-Some-Void.result c.value-in-Some-Void.ensures.formed
