-- What the exit status is if no machine runs, or if a session can't keep an event.
use Rattle.std.proofs.Common.{◌≡◌, refl}
use Rattle.xk_base.specs.declared.errors.BootError.{BootError}
use Rattle.xk_base.specs.declared.errors.BootError.TheVariants as boots
use Rattle.xv_session.specs.declared.session.SessionError.{SessionError}
use Rattle.xv_session.specs.declared.session.SessionError.TheVariants as sessions
use Rattle.program_files.specs.Failures.{failure_status, failure_of_boot, failure_of_session}

-- a boot that is refused is told by 2
pub failure_status-boot : (error : BootError) → failure_status (failure_of_boot error) ≡ 2
failure_status-boot boots.Memory = refl
failure_status-boot boots.BadConfig = refl
failure_status-boot (boots.BadPrograms place) = refl
failure_status-boot boots.NoInit = refl
failure_status-boot (boots.Init error) = refl

-- so is a session that can't keep an event
pub failure_status-session : (error : SessionError) → failure_status (failure_of_session error) ≡ 2
failure_status-session sessions.Memory = refl
failure_status-session sessions.Full = refl
