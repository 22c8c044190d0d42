use Rattle.std.proofs.Common.{eqb, Some, None, sym, ap, ◌∙◌, ap₂, arith}
use Rattle.std.proofs.lemmas.Bool.{cond-true, cond-false, eq-eqb, ne_eqb}
use Rattle.field.specs.Field.{mul, reciprocal}
use Rattle.field.proofs.Inverses.{inverse_only, power_inverse, field_laws}
use Rattle.field.proofs.inverse.Goals as goal

pub returns-then-a-eq0 : goal.returns-then-a-eq0
returns-then-a-eq0 c = record {
  value = sym (cond-true (eqb c.args.a 0) None _ (eq-eqb c.args.a 0 c.if-a-eq0.true));
  laws = field_laws;
}

pub returns : goal.returns
returns c =
    let is =
    inverse_only c.args.a c.power.result (omega arith) (omega arith) c.power.type_inv
    (ap₂ mul (sym c.log.ensures.inverts) c.power.ensures ∙ power_inverse c.log.result c.log.ensures.below) in
    record {
      value = ap Some is ∙ sym (cond-false (eqb c.args.a 0) None (Some (reciprocal c.args.a)) (ne_eqb c.args.a 0 c.if-a-eq0.false));
      laws = field_laws;
    }
