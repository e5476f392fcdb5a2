-- The named, as data.
use Rattle.std.specs.Prelude.{ℕ, List, refl}
use Rattle.std.specs.Coded.{Coded, code_by, coded×, coded_ℕ, coded_list}
use Rattle.xv_session.specs.declared.names.Named.{Named}

abbrev pub named_code : Coded Named
named_code = code_by (ℕ × ℕ) (coded× coded_ℕ coded_ℕ) (λ n. (n.pid, n.place)) (λ t. record { pid = t.0; place = t.1 }) (λ _. refl)

abbrev pub names_code : Coded (List Named)
names_code = coded_list named_code
