-- That the reasons of scripts are true. Assumes nothing.
pub mod ReasonsLaws
