mod Delays
