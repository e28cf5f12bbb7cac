-- The worked cases come out of the formulas.
use Rattle.std.proofs.Common.{refl}
use Rattle.units.specs.Division.{whole_cents}
use Rattle.formulas.specs.Adjustment.{nmea_of}
use Rattle.formulas.specs.Basis.{over}
use Rattle.formulas.specs.Figures.{weq_of, wfq_of, ieq_of, gesc_of, lesd_of, beq_of, bsc_of, vcrp_of, own_vcsc_of, balanced, vcsc_of, own_fee_of, fee_of, heua_of, total_load, heur_of, heuc_of, nasc_of}
use Rattle.formulas.specs.Sums.{sum}
use Rattle.formulas.specs.Cases.{ReferenceCases}

pub cases_come_out : ReferenceCases
unfolding whole_cents over sum weq_of wfq_of ieq_of gesc_of lesd_of beq_of bsc_of vcrp_of own_vcsc_of balanced vcsc_of own_fee_of fee_of heua_of total_load heur_of heuc_of nasc_of nmea_of
cases_come_out = refl
