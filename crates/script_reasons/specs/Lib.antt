-- What decided the shifts of scripts: the reasons, and the stages that a shift goes through.
-- Assumes nothing.
pub mod Reasons
pub mod Stages
